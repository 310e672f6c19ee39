-- What is seen of the stack and its operands, from what the code reads.
use Prim.Native.Nat.{ℕ, ◌+◌, ◌-◌, ◌<◌}
use native.Mathlib.Omega.{arith}
use mathlib.Core.Path.{◌≡◌, refl}
use mathlib.Core.List.{List}
use lib.ListN.{get_or, length}
use borrow.Author.Tests.{lt-ltb}
use Rattle.segment.specs.State.{sbase, ltop, flags, iorg}
use Rattle.effects.specs.Sources.{operand_at}
use Rattle.effects.specs.Seen.{read, temporaries, seen}

module _ (s : List ℕ) where
  pub origin-seen : (seen s).origin ≡ iorg (flags s)
  unfolding seen
  origin-seen = refl

  pub count-seen : (seen s).count ≡ temporaries s
  unfolding seen
  count-seen = refl

  pub room-seen : (seen s).room ≡ length s - (sbase s + ltop s + 1)
  unfolding seen
  room-seen = refl

  pub operand-seen : (i : ℕ) → i < temporaries s → (seen s).operand i ≡ read s (operand_at s i)
  unfolding seen
  operand-seen i h = simp (lt-ltb _ _ h)

  -- Under the segment's first word there is none.
  pub operand-under : (i : ℕ) → sbase s + ltop s < i → operand_at s i ≡ get_or s 0 0
  operand-under i h = let none : sbase s + ltop s - i ≡ 0 = omega arith in rw none
