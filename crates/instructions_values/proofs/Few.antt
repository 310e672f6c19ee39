-- A whole block has few lengths, and no more elements than the segment has words.
use Prim.Native.Nat.{ℕ, ◌≤◌}
use native.Mathlib.Omega.{arith}
use mathlib.Core.Path.{◌≡◌}
use mathlib.Core.Bool.{true}
use mathlib.Core.List.{List}
use lib.ListN.{length}
use Rattle.segment.specs.Blocks.{shape_at, elements_at}
use Rattle.effects.specs.Seen.{whole}
use Rattle.operands.proofs.Whole.{whole-facts}

module _ (s : List ℕ) (a : ℕ) (there : whole s a ≡ true) where
  pub lengths-few : length (shape_at s a) ≤ 15
  lengths-few = let facts = whole-facts s a there in omega arith

  pub ranked : 1 ≤ length (shape_at s a)
  ranked = let facts = whole-facts s a there in omega arith

  pub elements-few : length s ≤ 16384 → (words : List ℕ) → words ≡ elements_at s a → length words ≤ 16384
  elements-few short words e = let facts = whole-facts s a there in rw e (omega arith)
