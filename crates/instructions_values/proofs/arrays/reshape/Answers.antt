use lib.ListN.{length}
use native.Mathlib.Omega.{arith}
use mathlib.Core.Path.{◌≡◌, sym, ap, ◌∙◌}
use Rattle.manual.specs.OrTrap.{trap}
use Rattle.manual.specs.Values as values
use Rattle.operands.specs.Operands.{held}
use Rattle.manual.specs.Scalars as plan
use Rattle.effects.specs.Carried.{carry}
use Rattle.instructions_values.proofs.Taking.{passed-on, refused-by}
use Rattle.instructions_values.proofs.Vectors.{reshape-ranked, reshape-many}
use Rattle.instructions_values.proofs.arrays.reshape.Goals as goal
use Rattle.instructions_values.proofs.arrays.reshape.Goals.{then-shape_of-gt1-via-then-shape_of-gt1, then-shape_of-gt1-via-else-shape_of-gt1+then-size_of-gt15}

pub returns-in_err-a : goal.returns-in_err-a
unfolding plan.reshape
returns-in_err-a c = passed-on c.from_residual.result c.from_residual.ensures.1 (c.in_err-a.ensures _)

pub returns-then-shape_of-gt1 : goal.returns-then-shape_of-gt1
unfolding plan.reshape
returns-then-shape_of-gt1 c = let a = c.args in
    let both = c.in_ok-a.ensures in
    let refused : trap 5 0 ≡ values.reshape (held a.seg.now c.in_ok-a.a) (held a.seg.now c.in_ok-a.b) =
    elim c.then-shape_of-gt1.branch [
      | then-shape_of-gt1-via-then-shape_of-gt1 w ↦ reshape-ranked _ _ (omega (arith, w.if-shape_of-gt1.true, ap length c.shape_of.ensures))
      | then-shape_of-gt1-via-else-shape_of-gt1+then-size_of-gt15 w ↦ reshape-many _ _ (omega (arith, w.if-shape_of-gt1.false, ap length c.shape_of.ensures)) (omega (arith, w.if-size_of-gt15.true, w.size_of.ensures))
    ] in
    ap (carry a.seg.now) (sym (both.goes _ ∙ refused-by a.next.0 2 refused))

pub returns : goal.returns
unfolding plan.reshape
returns c = c.read_lengths.ensures ∙ ap (carry c.args.seg.now) (sym (c.in_ok-a.ensures.goes _))
