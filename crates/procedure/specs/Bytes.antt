-- A procedure segment as lent bytes: document 01's "whole big-endian words". A byte past the end reads as 0.
-- A reader must believe: the high byte stands first. Assumes nothing.
use Rattle.std.specs.Prelude.{ℕ, ◌+◌, ◌*◌, ◌^◌, ◌≡◌, refl, List, [], ◌∷◌, get_or}

abbrev pub byte_at : List ℕ → ℕ → ℕ
byte_at p i = get_or p i 0

-- Sixteen bits, the high byte first.
unfoldable pub half_at : List ℕ → ℕ → ℕ
half_at p i = byte_at p i * 2 ^ 8 + byte_at p (i + 1)

-- Thirty-two bits, the high byte first.
unfoldable pub word_at : List ℕ → ℕ → ℕ
word_at p i = byte_at p i * 2 ^ 24 + byte_at p (i + 1) * 2 ^ 16 + byte_at p (i + 2) * 2 ^ 8 + byte_at p (i + 3)

example-half : half_at (0x12 ∷ 0x34 ∷ []) 0 ≡ 0x1234
unfolding half_at
example-half = refl

example-word : word_at (0x00 ∷ 0x12 ∷ 0x34 ∷ 0x56 ∷ 0x78 ∷ []) 1 ≡ 0x1234_5678
unfolding word_at
example-word = refl
