use mathlib.Core.Path.{sym, ◌∙◌}
use mathlib.Core.Bool.{false≢true}
use native.Mathlib.Omega.{arith}
use borrow.Author.Tests.{eqb-true, ltb-true}
use Rattle.elements.proofs.Fast.{begins, first-there, second-there, goes_on, ends}
use Rattle.elements.proofs.Seen.{small-both, plain-operands}
use Rattle.elements.proofs.integers.product.Goals as goal

pub loop-i-init : goal.loop-i-init
loop-i-init c = begins c.requires.0 (omega arith)

pub pick-x-requires : goal.pick-x-requires
pick-x-requires c = first-there c.loop-i.invariant c.loop-i-test.true

pub pick-y-requires : goal.pick-y-requires
pick-y-requires c = second-there c.loop-i.invariant c.loop-i-test.true

pub loop-i-preserved : goal.loop-i-preserved
loop-i-preserved c = goes_on c.loop-i.invariant c.loop-i-test.true c.pick-x.ensures c.pick-y.ensures
    (λ z. let p = plain-operands _ _ _ z.0 in let q = small-both _ _ z.1 in ((p.0, q.0), c.product_word.ensures p.1 p.2 (omega (arith, q.1, c.product_size-sizes.ensures))))

pub shape_of-out-then-plain : goal.shape_of-out-then-plain
shape_of-out-then-plain c = c.loop-i.invariant.kept

pub returns-then-plain : goal.returns-then-plain
returns-then-plain c = ends c.loop-i.invariant (omega arith) (λ t. (eqb-true _ _ (sym c.plain.ensures ∙ c.if-plain.true), ltb-true _ _ t))

pub shape_of-out-else-plain : goal.shape_of-out-else-plain
shape_of-out-else-plain c = c.loop-i.invariant.kept

pub returns-else-plain : goal.returns-else-plain
returns-else-plain c = ends c.loop-i.invariant (omega arith) (λ t. absurd (false≢true (sym c.if-plain.false ∙ t)))
