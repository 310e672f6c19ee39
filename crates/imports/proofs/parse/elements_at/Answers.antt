use native.Mathlib.Omega.{arith}
use lib.ListN.{drop}
use lib.Seq.{length-take-le}
use Rattle.descriptor.specs.Fields.{integer_limit}
use Rattle.imports.proofs.Parsing.{part-read, too_many, no-elements, with-elements}
use Rattle.imports.proofs.parse.elements_at.Goals as goal

pub returns-then-count-gt-ELEMENT_LIMIT-clause-ravel_after : goal.returns-then-count-gt-ELEMENT_LIMIT-clause-ravel_after
returns-then-count-gt-ELEMENT_LIMIT-clause-ravel_after c = too_many _ _ _ _ _ c.product-count.ensures c.if-count-gt-ELEMENT_LIMIT.true

pub returns-in_err-next-clause-ravel_after : goal.returns-in_err-next-clause-ravel_after
returns-in_err-next-clause-ravel_after c =
    let read = part-read integer_limit c.product-count.result _ _ _ _ c.args.ravel.now (length-take-le _ _ (omega arith)) c.numbers_at.auto.out _ c.numbers_at.ensures in
    rw c.from_residual.ensures (no-elements _ _ _ _ _ c.product-count.ensures c.if-count-gt-ELEMENT_LIMIT.false (rw c.in_err-next.was at read))

pub returns-clause-ravel_after : goal.returns-clause-ravel_after
returns-clause-ravel_after c =
    let read = part-read integer_limit c.product-count.result _ _ _ _ (drop c.product-count.result c.args.ravel.now) (length-take-le _ _ (omega arith)) c.numbers_at.auto.out _ c.numbers_at.ensures in
    with-elements _ _ _ _ _ c.product-count.ensures c.if-count-gt-ELEMENT_LIMIT.false _ _ (rw c.in_ok-next.was at read)
