-- A line of a file as it is put together: of one that is too long the beginning is kept, and that more followed.
-- A reader must believe: a line is too long from 262,145 bytes on. Assumes nothing.
use Rattle.std.specs.Prelude.{ℕ, ◌≡◌, refl, Bool, true, false, cond, List, [], ◌∷◌, ◌++◌, eqb, leb, length, Option, Some, None, Result, Ok, Err}
use Rattle.line_tool.specs.Text.{bytes}
use Rattle.line_tool.specs.Tokens.{token_at, is_passed_over, after_all}
use Rattle.line_tool.specs.declared.lines.Line.{Line}
use Rattle.line_tool.specs.declared.fault.Fault.TheVariants.{LongLine}
use Rattle.line_tool.specs.declared.fault.Misread.{Misread}

-- The bytes that are kept, and whether more followed.
pub record Kept : Type 0 where
  pub part : List ℕ
  pub more : Bool

abbrev pub kept : List ℕ → Bool → Kept
kept part more = record { part = part; more = more }

abbrev pub line_of : Line → Kept
line_of line = kept line.bytes.items line.long

-- A further byte.
unfoldable pub with_byte : Kept → ℕ → Kept
with_byte line byte = cond (leb 262144 (length line.part)) (kept line.part true) (kept (line.part ++ byte ∷ []) line.more)

-- Further bytes, one after the other.
unfoldable pub with_part : Kept → List ℕ → Kept
with_part line [] = line
with_part line (byte ∷ part) = with_part (with_byte line byte) part

-- What a line says: its bytes, or nothing where it is passed over. One that is too long is a fault, which its first token shows,
-- but for a comment.
unfoldable pub said : Kept → Result (Option (List ℕ)) Misread
said line =
    let first = token_at line.part 0 in
    let wrong = cond (is_passed_over line.part) (eqb first.start first.end) true in
    cond (cond line.more wrong false) (Err (record { fault = LongLine; token = first }))
    (cond (is_passed_over line.part) (Ok None) (Ok (Some line.part)))

further : with_byte (kept (bytes "ru") false) 110 ≡ kept (bytes "run") false
unfolding with_byte
further = refl

further_part : with_part (kept (bytes "r") false) (bytes "un 0") ≡ kept (bytes "run 0") false
unfolding with_part with_byte
further_part = refl

whole_line : said (kept (bytes "run 0") false) ≡ Ok (Some (bytes "run 0"))
unfolding said is_passed_over token_at after_all
whole_line = refl

long_comment : said (kept (bytes "# of par") true) ≡ Ok None
unfolding said is_passed_over token_at after_all
long_comment = refl

long_blank : said (kept (bytes "  ") true) ≡ Err (record { fault = LongLine; token = record { start = 2; end = 2 } })
unfolding said is_passed_over token_at after_all
long_blank = refl

too_long : said (kept (bytes "seg 96") true) ≡ Err (record { fault = LongLine; token = record { start = 0; end = 3 } })
unfolding said is_passed_over token_at after_all
too_long = refl
