use native.Mathlib.Omega.{arith}
use mathlib.Core.Path.{refl, ap, ◌∙◌}
use lib.ListN.{length}
use Rattle.segment.specs.State.{flags, iorg}
use Rattle.operands.proofs.Whole.{whole-facts}
use Rattle.operands.specs.Operands.{held}
use Rattle.operands.specs.declared.reading.Value.TheVariants.{Array}
use Rattle.instructions_values.proofs.Indexing.{indexed-unlike, indexed-trap, indexed-at}
use Rattle.instructions_values.proofs.Taking.{passed-on}
use Rattle.instructions_values.proofs.subscripts.element.Goals as goal

pub returns-then-subscripts-lengths : goal.returns-then-subscripts-lengths
returns-then-subscripts-lengths c = let a = c.args in
    rw (← indexed-unlike (iorg (flags a.seg.now)) a.next.0 a.subscripts.now (held a.seg.now (Array a.block)) (rw (← c.lengths_of-lengths.ensures) c.if-subscripts-lengths.true))

pub place-requires : goal.place-requires
place-requires c = (c.if-subscripts-lengths.false, rw c.lengths_of-lengths.ensures (omega (arith, (whole-facts _ _ c.requires.0).small)))

pub returns-in_err-k : goal.returns-in_err-k
returns-in_err-k c = let a = c.args in
    rw (← indexed-trap (iorg (flags a.seg.now)) a.next.0 a.subscripts.now (held a.seg.now (Array a.block)) (c.if-subscripts-lengths.false ∙ ap length c.lengths_of-lengths.ensures) _ _ (rw (c.in_err-k.was, c.iorg.ensures, c.lengths_of-lengths.ensures) at c.place.ensures))
    (passed-on c.from_residual.result c.from_residual.ensures.1 refl)

pub returns : goal.returns
returns c = let a = c.args in
    rw (← indexed-at (iorg (flags a.seg.now)) a.next.0 a.subscripts.now (held a.seg.now (Array a.block)) (c.if-subscripts-lengths.false ∙ ap length c.lengths_of-lengths.ensures) _ (rw (c.in_ok-k.was, c.iorg.ensures, c.lengths_of-lengths.ensures) at c.place.ensures), ← c.elements_of.ensures, ← c.word-w.ensures) c.replace_by_scalar.ensures
