use mathlib.Core.Path.{◌≡◌, sym, ap, ◌∙◌}
use Rattle.segment.specs.State.{flags, iorg}
use Rattle.manual.specs.OrTrap.{OrTrap, gives}
use Rattle.manual.specs.Scalars as plan
use Rattle.manual.specs.Values as values
use Rattle.effects.specs.Seen.{seen}
use Rattle.effects.specs.Carried.{carry}
use Rattle.operands.specs.Operands.{held}
use Rattle.operands.proofs.Seen.{origin-seen}
use Rattle.instructions_values.proofs.Taking.{passed-on, refused-by}
use Rattle.instructions_values.proofs.Vectors.{generator-refused, generator-no-length, generator-numbers}
use Rattle.instructions_values.proofs.arrays.index_generator.Goals as goal

pub returns-in_err-v : goal.returns-in_err-v
unfolding plan.index_generator
returns-in_err-v c = passed-on c.from_residual.result c.from_residual.ensures.1 (c.in_err-v.ensures _)

pub returns-in_err-single : goal.returns-in_err-single
unfolding plan.index_generator
returns-in_err-single c = passed-on c.from_residual-in_err-single.result c.from_residual-in_err-single.ensures.1
    (c.in_ok-v.ensures.goes _ ∙ refused-by c.args.next.0 1 (generator-refused _ _ _ _ (rw c.in_err-single.was at c.single.ensures)))

pub returns-in_err-n : goal.returns-in_err-n
unfolding plan.index_generator
returns-in_err-n c = passed-on c.from_residual-in_err-n.result c.from_residual-in_err-n.ensures.1
    (c.in_ok-v.ensures.goes _ ∙ refused-by c.args.next.0 1 (generator-no-length _ _ _ (rw c.in_ok-single.was at c.single.ensures) _ _ (rw c.in_err-n.was at c.short.ensures)))

pub returns : goal.returns
unfolding plan.index_generator
returns c = let a = c.args in
    let s = a.seg.now in
    let numbers : gives (values.vector (values.up_from (iorg (flags s)) c.in_ok-n.n)) ≡ values.index_generator (seen s).origin (held s c.in_ok-v.v) =
    rw (origin-seen s) (generator-numbers _ _ _ (rw c.in_ok-single.was at c.single.ensures) _ (rw c.in_ok-n.was at c.short.ensures)) in
    c.generate.ensures
    ∙ ap (λ (r : OrTrap values.Value). carry s (plan.replace_by a.next.0 1 r)) numbers
    ∙ ap (carry s) (sym (c.in_ok-v.ensures.goes _))
