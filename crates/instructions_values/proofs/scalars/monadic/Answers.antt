use mathlib.Core.Path.{sym, ap, ◌∙◌}
use Rattle.manual.specs.Scalars as plan
use Rattle.effects.specs.Carried.{carry}
use Rattle.instructions_values.proofs.Elementwise.{monadic-scalar}
use Rattle.instructions_values.proofs.Taking.{passed-on}
use Rattle.instructions_values.proofs.scalars.monadic.Goals as goal

pub returns-in_err-a : goal.returns-in_err-a
unfolding plan.monadic
returns-in_err-a c = passed-on c.from_residual.result c.from_residual.ensures.1 (c.in_err-a.ensures _)

pub returns-in_err-w-in-Scalar : goal.returns-in_err-w-in-Scalar
unfolding plan.monadic
returns-in_err-w-in-Scalar c = let a = c.args in
    let there = rw c.in-Scalar.is at c.in_ok-a.ensures in
    let refused = rw (← c.monadic.ensures, c.in_err-w-in-Scalar.was) at (monadic-scalar a.next.0 a.op c.in-Scalar.w) in
    passed-on c.from_residual-in_err-w-in-Scalar.result c.from_residual-in_err-w-in-Scalar.ensures.1 (there.goes _ ∙ refused)

pub returns-in_ok-w-in-Scalar : goal.returns-in_ok-w-in-Scalar
unfolding plan.monadic
returns-in_ok-w-in-Scalar c = let a = c.args in
    let there = rw c.in-Scalar.is at c.in_ok-a.ensures in
    let given = rw (← c.monadic.ensures, c.in_ok-w-in-Scalar.was) at (monadic-scalar a.next.0 a.op c.in-Scalar.w) in
    c.replace_by_scalar.ensures ∙ ap (carry a.seg.now) (sym (there.goes _ ∙ given))

pub returns-in-Array : goal.returns-in-Array
unfolding plan.monadic
returns-in-Array c = let there = rw c.in-Array.is at c.in_ok-a.ensures in c.monadic_array.ensures ∙ ap (carry c.args.seg.now) (sym (there.goes _))
