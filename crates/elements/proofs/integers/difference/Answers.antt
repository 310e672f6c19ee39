use mathlib.Core.Path.{sym, ◌∙◌}
use native.Mathlib.Omega.{arith}
use borrow.Author.Tests.{eqb-true}
use Rattle.elements.proofs.Fast.{begins, first-there, second-there, goes_on, ends}
use Rattle.elements.proofs.Seen.{plain-result}
use Rattle.elements.proofs.integers.difference.Goals as goal

pub loop-i-init : goal.loop-i-init
loop-i-init c = begins c.requires.0 (omega arith)

pub pick-x-requires : goal.pick-x-requires
pick-x-requires c = first-there c.loop-i.invariant c.loop-i-test.true

pub pick-y-requires : goal.pick-y-requires
pick-y-requires c = second-there c.loop-i.invariant c.loop-i-test.true

pub loop-i-preserved : goal.loop-i-preserved
loop-i-preserved c = goes_on c.loop-i.invariant c.loop-i-test.true c.pick-x.ensures c.pick-y.ensures
    (λ z. let p = plain-result _ _ _ _ z in (p.0, c.difference_word-d.ensures p.1 p.2 p.3))

pub shape_of-out : goal.shape_of-out
shape_of-out c = c.loop-i.invariant.kept

pub returns : goal.returns
returns c = ends c.loop-i.invariant (omega arith) (λ t. eqb-true _ _ (sym c.plain.ensures ∙ t))
