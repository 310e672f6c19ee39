use Prim.Native.Nat.{◌%◌}
use native.Mathlib.Omega.{arith}
use mathlib.Core.Path.{refl, sym, ap, ◌∙◌}
use lib.Seq.{length-take-le}
use Rattle.manual.specs.Scalars as plan
use Rattle.effects.specs.Carried.{carry}
use Rattle.instructions_values.proofs.Few.{ranked}
use Rattle.instructions_values.proofs.Indexing.{index-taken, index-words}
use Rattle.instructions_values.proofs.Taking.{passed-on}
use Rattle.instructions_values.proofs.subscripts.index.Goals as goal

pub returns-in_err-a : goal.returns-in_err-a
unfolding plan.index
returns-in_err-a c = passed-on c.from_residual.result c.from_residual.ensures.1 (c.in_err-a.ensures _)

pub returns-in_err-take_scalars : goal.returns-in_err-take_scalars
returns-in_err-take_scalars c = let a = c.args in
    rw (index-taken a.seg.now a.next.0 (a.rank % 16) c.in_ok-a.ensures, ← c.take_scalars.ensures, c.in_err-take_scalars.was)
    (passed-on c.from_residual-in_err-take_scalars.result c.from_residual-in_err-take_scalars.ensures.1 refl)

pub returns-in-Scalar : goal.returns-in-Scalar
returns-in-Scalar c = let a = c.args in rw (index-taken a.seg.now a.next.0 (a.rank % 16) c.in_ok-a.ensures, ← c.take_scalars.ensures, c.in_ok-take_scalars.was, c.in-Scalar.is)

pub returns-in-Array : goal.returns-in-Array
returns-in-Array c = let a = c.args in
    let there = rw c.in-Array.is at c.in_ok-a.ensures in
    c.element.ensures
    ∙ ap (carry a.seg.now) (sym (index-words a.seg.now a.next.0 (a.rank % 16) there _ (length-take-le _ _ (omega arith))
    (ranked _ _ (there.readable.array _ refl)) (rw c.in_ok-take_scalars.was at c.take_scalars.ensures)))
