-- What a line says, by what is known of it.
use Prim.Native.Nat.{ℕ, zero, suc, ◌-◌, ◌≤◌, ◌<◌}
use native.Mathlib.Omega.{arith}
use mathlib.Core.Path.{◌≡◌, refl, sym, ◌∙◌}
use mathlib.Core.Bool.{Bool, true, false}
use mathlib.Core.List.{List, [], ◌∷◌, ◌++◌, append_assoc, append-nil}
use lib.Dec.{eqb}
use lib.ListN.{length, take, length-append}
use borrow.Author.Tests.{le-leb, lt-leb}
use Rattle.std.proofs.Common.{Ok, Err, Some, None}
use Rattle.line_tool.specs.Lines.{Kept, kept, with_byte, with_part, said}
use Rattle.line_tool.specs.Tokens.{token_at, is_passed_over}
use Rattle.line_tool.specs.declared.tokens.Token.{Token}
use Rattle.line_tool.specs.declared.fault.Fault.TheVariants.{LongLine}

module _ (part : List ℕ) (more : Bool) where
  byte-over : (byte : ℕ) → 262144 ≤ length part → kept part true ≡ with_byte (kept part more) byte
  unfolding with_byte
  byte-over byte h = simp (le-leb _ _ h)

  byte-in : (byte : ℕ) → length part < 262144 → kept (part ++ byte ∷ []) more ≡ with_byte (kept part more) byte
  unfolding with_byte
  byte-in byte h = simp (lt-leb _ _ h)

  module _ (t : Token) (first : t ≡ token_at part 0) where
    pub said-open : more ≡ true → is_passed_over part ≡ false → Err (record { fault = LongLine; token = t }) ≡ said (kept part more)
    unfolding said
    said-open m p = simp (m, p, first)

    pub said-blank : more ≡ true → is_passed_over part ≡ true → eqb t.start t.end ≡ true → Err (record { fault = LongLine; token = t }) ≡ said (kept part more)
    unfolding said
    said-blank m p e = simp (m, p, ← first, e)

    pub said-comment : more ≡ true → is_passed_over part ≡ true → eqb t.start t.end ≡ false → Ok None ≡ said (kept part more)
    unfolding said
    said-comment m p e = simp (m, p, ← first, e)

  pub said-none : more ≡ false → is_passed_over part ≡ true → Ok None ≡ said (kept part more)
  unfolding said
  said-none m p = simp (m, p)

  pub said-part : more ≡ false → is_passed_over part ≡ false → Ok (Some part) ≡ said (kept part more)
  unfolding said
  said-part m p = simp (m, p)

-- a part for which there is room, and one that fills the line before it ends
pub part-in : (part line : List ℕ) (more : Bool) → length part ≤ 262144 - length line → kept (line ++ part) more ≡ with_part (kept line more) part
unfolding with_part
part-in [] line more h = rw (append-nil line)
part-in (byte ∷ part) line more h =
    rw (← byte-in line more byte (omega arith))
    (sym (rw (append_assoc line (byte ∷ []) part)) ∙ part-in part (line ++ byte ∷ []) more (omega (arith, length-append line (byte ∷ []))))

part-full : (part line : List ℕ) → 262144 ≤ length line → kept line true ≡ with_part (kept line true) part
unfolding with_part
part-full [] line h = refl
part-full (byte ∷ part) line h = rw (← byte-over line true byte h) (part-full part line h)

pub part-over : (n : ℕ) (part line : List ℕ) (more : Bool) → n ≡ 262144 - length line → n < length part → kept (line ++ take n part) true ≡ with_part (kept line more) part
unfolding with_part
part-over n [] line more e h = absurd (omega arith)
part-over zero (byte ∷ part) line more e h =
    rw (append-nil line, ← byte-over line more byte (omega arith)) (part-full part line (omega arith))
part-over (suc n) (byte ∷ part) line more e h =
    rw (← byte-in line more byte (omega arith))
    (sym (rw (append_assoc line (byte ∷ []) (take n part)))
    ∙ part-over n part (line ++ byte ∷ []) more (omega (arith, length-append line (byte ∷ []))) (omega arith))

pub one-byte : (line : Kept) (byte : ℕ) → with_part line (byte ∷ []) ≡ with_byte line byte
unfolding with_part
one-byte line byte = refl
