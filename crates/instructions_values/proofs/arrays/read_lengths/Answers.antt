use mathlib.Core.Path.{ap, ◌∙◌}
use Rattle.manual.specs.OrTrap.{OrTrap}
use Rattle.manual.specs.Scalars as plan
use Rattle.manual.specs.Values as values
use Rattle.operands.specs.Operands.{held}
use Rattle.effects.specs.Carried.{carry}
use Rattle.instructions_values.proofs.Taking.{passed-on, refused-by}
use Rattle.instructions_values.proofs.Vectors.{reshape-refused, reshape-lengths}
use Rattle.instructions_values.proofs.arrays.read_lengths.Goals as goal

pub returns-in_err-lengths : goal.returns-in_err-lengths
returns-in_err-lengths c = let a = c.args in
    let words = rw (c.in_err-lengths.was, c.keep-rank.ensures.value, c.keep-rank.ensures.to_after, c.ravel_of.ensures) at c.lengths.ensures in
    passed-on c.from_residual.result c.from_residual.ensures.1
    (refused-by a.next.0 2 (reshape-refused (held a.seg.now a.a) (held a.seg.now a.b) c.requires.a_bound.0 c.requires.a_bound.1 _ _ words))

pub returns : goal.returns
returns c = let a = c.args in
    let words = rw (c.in_ok-lengths.was, c.keep-rank.ensures.value, c.keep-rank.ensures.to_after) at c.lengths.ensures in
    c.fill_shape.ensures ∙ ap (λ (r : OrTrap values.Value). carry a.seg.now (plan.replace_by a.next.0 2 r)) (reshape-lengths (held a.seg.now a.a) (held a.seg.now a.b) c.requires.a_bound.0 c.requires.a_bound.1 _ (rw (c.keep-rank.ensures.value, ← c.ravel_of.ensures) words))
