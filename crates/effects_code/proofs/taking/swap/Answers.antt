use Prim.Native.Nat.{ℕ, ◌+◌, ◌-◌}
use mathlib.Core.Path.{◌≡◌, sym}
use mathlib.Core.List.{List}
use native.Mathlib.Omega.{arith}
use lib.ListN.{get_or, set}
use Rattle.segment.specs.State.{sbase, ltop}
use Rattle.effects.specs.Perform.{bottom_of, swap}
use Rattle.effects_code.proofs.taking.swap.Goals as goal

swap-on : (s : List ℕ) → swap s ≡ set (set s (sbase s + ltop s) (get_or s (bottom_of s 2) 0)) (bottom_of s 2) (get_or s (sbase s + ltop s) 0)
unfolding swap
swap-on s =
    let top : sbase s + ltop s - 0 ≡ sbase s + ltop s = omega arith in
    let under : sbase s + ltop s - 1 ≡ bottom_of s 2 = omega arith in
    rw (top, under)

pub returns : goal.returns
returns c = rw (c.put-2.ensures, c.put.ensures, c.word-second.ensures, c.word-first.ensures, c.index-under.ensures, c.bottom.ensures, c.index-at.ensures, c.top_cell.ensures.0) (sym (swap-on _))
