-- Lines and their tokens: what stands between blanks. A blank is a space, a tab or a carriage return, so that a line may end
-- with one. A reader must believe: lines are read so. Assumes nothing.
use Rattle.std.specs.Prelude.{ℕ, suc, ◌+◌, ◌-◌, ◌≡◌, refl, Bool, true, false, cond, not, List, [], ◌∷◌, eqb, leb, length, get_or, take, drop}
use Rattle.line_tool.specs.Text.{bytes}
use Rattle.line_tool.specs.declared.tokens.Kind.{Kind}
use Rattle.line_tool.specs.declared.tokens.Kind.TheVariants.{Blank, Other, InLine}
use Rattle.line_tool.specs.declared.tokens.Token.{Token}

abbrev pub is_blank : ℕ → Bool
is_blank b = cond (eqb b 32) true (cond (eqb b 9) true (eqb b 13))

-- A line feed ends a line.
abbrev pub is_of : Kind → ℕ → Bool
is_of Blank b = is_blank b
is_of Other b = not (is_blank b)
is_of InLine b = not (eqb b 10)

-- How many bytes of a kind come first, and the place after those that follow one another from a place on.
abbrev pub leading : (ℕ → Bool) → List ℕ → ℕ
leading is [] = 0
leading is (b ∷ bs) = cond (is b) (suc (leading is bs)) 0

unfoldable pub after_all : (ℕ → Bool) → List ℕ → ℕ → ℕ
after_all is bytes from = from + leading is (drop from bytes)

-- Where a line ends: at its line feed, or with the bytes.
unfoldable pub line_end : List ℕ → ℕ → ℕ
line_end bytes from = after_all (is_of InLine) bytes from

-- The first token from a place on; where there is none it is empty, at the end.
unfoldable pub token_at : List ℕ → ℕ → Token
token_at line from =
    let start = after_all (is_of Blank) line from in
    record { start = start; end = after_all (is_of Other) line start }

-- The bytes of a token.
unfoldable pub text_of : List ℕ → Token → List ℕ
text_of line t = take (t.end - t.start) (drop t.start line)

-- What there is of a line that ends too soon: a token, or all up to an empty one.
unfoldable pub shown_of : List ℕ → Token → Token
shown_of line t = cond (eqb t.start t.end) (record { start = (token_at line 0).start; end = t.start }) t

-- Blank lines and lines that begin with # are passed over.
unfoldable pub is_passed_over : List ℕ → Bool
is_passed_over line =
    let start = after_all (is_of Blank) line 0 in
    cond (leb (length line) start) true (eqb (get_or line start 0) 35)

tab : is_blank 9 ≡ true
tab = refl

line-feed : is_of InLine 10 ≡ false
line-feed = refl

not-blank : is_of Other 35 ≡ true
not-blank = refl

two-blanks : leading (is_of Blank) (bytes "  seg ") ≡ 2
two-blanks = refl

after-command : after_all (is_of Other) (bytes "seg 96") 1 ≡ 3
unfolding after_all
after-command = refl

one_line : line_end (115 ∷ 10 ∷ 116 ∷ []) 0 ≡ 1
unfolding line_end after_all
one_line = refl

last_line : line_end (115 ∷ 10 ∷ 116 ∷ []) 2 ≡ 3
unfolding line_end after_all
last_line = refl

first : token_at (bytes " seg 96") 0 ≡ record { start = 1; end = 4 }
unfolding token_at after_all
first = refl

second : text_of (bytes " seg 96") (token_at (bytes " seg 96") 4) ≡ bytes "96"
unfolding token_at text_of after_all
second = refl

none_left : token_at (bytes "run ") 3 ≡ record { start = 4; end = 4 }
unfolding token_at after_all
none_left = refl

ends_soon : shown_of (bytes " seg 96 ") (record { start = 8; end = 8 }) ≡ record { start = 1; end = 8 }
unfolding shown_of token_at after_all
ends_soon = refl

comment : is_passed_over (bytes " # of par lists") ≡ true
unfolding is_passed_over after_all
comment = refl

command : is_passed_over (bytes "run 0 #") ≡ false
unfolding is_passed_over after_all
command = refl
