-- Answers as bytes: texts, decimal numbers and words of 8 lower-case HEX digits, put into a buffer from a place on.
-- A reader must believe: numbers are written so. Assumes nothing.
use Rattle.std.specs.Prelude.{ℕ, zero, suc, ◌+◌, ◌/◌, ◌%◌, ◌^◌, min, max, ◌≡◌, refl, cond, List, [], ◌∷◌, ◌++◌, ltb, length}
use Rattle.std.proofs.lemmas.List.Edits.{sets}
use Rattle.line_tool.specs.Text.{bytes}

-- A place in a buffer, and the buffer.
pub record Wrote : Type 0 where
  pub place : ℕ
  pub buffer : List ℕ

abbrev pub wrote : ℕ → List ℕ → Wrote
wrote place out = record { place = place; buffer = out }

-- A text stands in a buffer from a place on, and what lies past the end is left out; the place is the one after it.
unfoldable pub writes : List ℕ → ℕ → List ℕ → Wrote
writes out at text = wrote (max at (min (at + length text) (length out))) (sets out at text)

-- The digits of a number, at most so many of them, the highest first, and no zero in front.
abbrev pub digits : ℕ → ℕ → List ℕ
digits zero n = []
digits (suc places) n = cond (ltb n 10) ((48 + n) ∷ []) (digits places (n / 10) ++ ((48 + n % 10) ∷ []))

unfoldable pub decimal : ℕ → List ℕ
decimal n = digits 10 n

-- The last HEX digit of a number.
abbrev pub glyph : ℕ → ℕ
glyph n = cond (ltb (n % 16) 10) (48 + n % 16) (87 + n % 16)

unfoldable pub hex : ℕ → List ℕ
hex w =
    glyph (w / 16 ^ 7)
    ∷ glyph (w / 16 ^ 6)
    ∷ glyph (w / 16 ^ 5)
    ∷ glyph (w / 16 ^ 4)
    ∷ glyph (w / 16 ^ 3)
    ∷ glyph (w / 16 ^ 2)
    ∷ glyph (w / 16)
    ∷ glyph w
    ∷ []

room : writes (1 ∷ 2 ∷ 3 ∷ []) 0 (7 ∷ 8 ∷ []) ≡ wrote 2 (7 ∷ 8 ∷ 3 ∷ [])
unfolding writes
room = refl

three-places : digits 3 407 ≡ bytes "407"
three-places = refl

low_digit : glyph 0x2e ≡ 101
low_digit = refl

zeros : hex 0x0200_001f ≡ bytes "0200001f"
unfolding hex
zeros = refl

greatest : decimal 0xffff_ffff ≡ bytes "4294967295"
unfolding decimal
greatest = refl

nothing : decimal 0 ≡ bytes "0"
unfolding decimal
nothing = refl

no_room : writes (1 ∷ 2 ∷ 3 ∷ []) 1 (7 ∷ 8 ∷ 9 ∷ []) ≡ wrote 3 (1 ∷ 7 ∷ 8 ∷ [])
unfolding writes
no_room = refl
