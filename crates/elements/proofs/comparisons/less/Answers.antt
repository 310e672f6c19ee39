use mathlib.Core.Path.{sym, ◌∙◌}
use native.Mathlib.Omega.{arith}
use lib.Dec.{ltb}
use Rattle.elements.proofs.Fast.{begins, first-there, second-there, goes_on, ends}
use Rattle.elements.proofs.Compared.{fast-less, compared}
use Rattle.elements.proofs.comparisons.less.Goals as goal

pub loop-i-init : goal.loop-i-init
loop-i-init c = begins c.requires.0 (omega arith)

pub pick-x-requires : goal.pick-x-requires
pick-x-requires c = first-there c.loop-i.invariant c.loop-i-test.true

pub pick-y-requires : goal.pick-y-requires
pick-y-requires c = second-there c.loop-i.invariant c.loop-i-test.true

pub loop-i-preserved : goal.loop-i-preserved
loop-i-preserved c = let floats = c.args.floats in
    goes_on c.loop-i.invariant c.loop-i-test.true c.pick-x.ensures c.pick-y.ensures
    (compared ltb fast-less floats c.loop-i.seen c.pick-x.result c.pick-y.result c.seen_with-seen.ensures c.is_below.ensures)

pub shape_of-out : goal.shape_of-out
shape_of-out c = c.loop-i.invariant.kept

pub returns : goal.returns
returns c = ends c.loop-i.invariant (omega arith) (λ t. sym c.one_kind.ensures ∙ t)
