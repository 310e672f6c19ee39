use Prim.Native.Nat.{◌-◌}
use mathlib.Core.Path.{◌≡◌}
use lib.ListN.{length}
use Rattle.line_tool.specs.Lists.{numbers_at}
use Rattle.line_tool.proofs.Listing.{ListFrom}
use Rattle.line_tool.proofs.list.numbers_at.Given as goal

abbrev pub invariant-loop : goal.invariant-loop
invariant-loop l =
    (length l.out ≡ length l.initial.out) × ListFrom (numbers_at l.base l.line l.most l.from 0 l.initial.out) l.base l.line (l.most - l.counter) l.next l.count l.out
