-- Bytes that stand in the code are what a read there finds.
use mathlib.Core.Path.{◌≡◌}
use mathlib.Core.List.{List, [], ◌∷◌}
use Prim.Native.Nat.{ℕ, ◌+◌, ◌*◌, ◌^◌, ◌≤◌}
use native.Mathlib.Omega.{arith}
use lib.ListN.{length}
use borrow.Author.Tests.{lt-ltb, le-ltb}
use Rattle.std.proofs.Common.{Some}
use Rattle.instruction.specs.Families.{family_of}
use Rattle.instruction.specs.Reading.{cursor_at, fetch_byte, fetch_half, fetch_word}
use Rattle.instruction.specs.Decoding.{family_at, instruction_at}
use Rattle.instruction_theorems.specs.Theorems.{Stand}

pub stand-length : (code : List ℕ) (at : ℕ) (bytes : List ℕ) → Stand code at bytes → at + length bytes ≤ length code
stand-length code at [] s = omega arith
stand-length code at (b ∷ bytes) s =
    let h : at + 1 + length bytes ≤ length code = stand-length code (at + 1) bytes s.2 in omega arith

module _ (code : List ℕ) (at : ℕ) where
  pub byte-here : (b : ℕ) (bytes : List ℕ) → Stand code at (b ∷ bytes)
      → fetch_byte code (cursor_at at) ≡ Some (b, cursor_at (at + 1))
  unfolding fetch_byte
  byte-here b bytes s = simp (lt-ltb at (length code) s.0, s.1)

  -- The first byte of an instruction.
  pub first-here : 8 ≤ at → (b : ℕ) (bytes : List ℕ) → Stand code at (b ∷ bytes)
      → instruction_at code at ≡ family_at code (cursor_at (at + 1)) b (family_of b)
  unfolding instruction_at
  first-here low b bytes s = simp (le-ltb at 8 low, byte-here b bytes s)

pub half-here : (code : List ℕ) (at high low : ℕ) (bytes : List ℕ) → Stand code at (high ∷ low ∷ bytes)
    → fetch_half code (cursor_at at) ≡ Some (high * 2 ^ 8 + low, cursor_at (at + 1 + 1))
unfolding fetch_half
half-here code at high low bytes s =
    simp (byte-here code at high (low ∷ bytes) s, byte-here code (at + 1) low bytes s.2)

pub word-here : (code : List ℕ) (at a b c d : ℕ) (bytes : List ℕ) → Stand code at (a ∷ b ∷ c ∷ d ∷ bytes)
    → fetch_word code (cursor_at at) ≡ Some ((a * 2 ^ 8 + b) * 2 ^ 16 + (c * 2 ^ 8 + d), cursor_at (at + 1 + 1 + 1 + 1))
unfolding fetch_word
word-here code at a b c d bytes s =
    simp (half-here code at a b (c ∷ d ∷ bytes) s, half-here code (at + 1 + 1) c d bytes s.2.2)
