use mathlib.Core.Path.{refl}
use Rattle.manual.specs.Scalars as plan
use Rattle.instructions_values.proofs.Origin.{origin-value}
use Rattle.instructions_values.proofs.Taking.{passed-on}
use Rattle.instructions_values.proofs.scalars.set_origin.Goals as goal

pub returns-in_err-v : goal.returns-in_err-v
unfolding plan.set_origin
returns-in_err-v c = passed-on c.from_residual.result c.from_residual.ensures.1 (c.in_err-v.ensures _)

pub returns-in_err-single : goal.returns-in_err-single
returns-in_err-single c = rw (origin-value c.args.next.0 c.in_ok-v.ensures, ← c.single.ensures, c.in_err-single.was)
    (passed-on c.from_residual-in_err-single.result c.from_residual-in_err-single.ensures.1 refl)

pub returns-in-Character : goal.returns-in-Character
returns-in-Character c = rw (origin-value c.args.next.0 c.in_ok-v.ensures, ← c.single.ensures, c.in_ok-single.was, ← c.truth.ensures, c.in-Character.is)

pub returns-in-Other : goal.returns-in-Other
returns-in-Other c = rw (origin-value c.args.next.0 c.in_ok-v.ensures, ← c.single.ensures, c.in_ok-single.was, ← c.truth.ensures, c.in-Other.is)

pub returns-in-Value : goal.returns-in-Value
returns-in-Value c = rw (origin-value c.args.next.0 c.in_ok-v.ensures, ← c.single.ensures, c.in_ok-single.was, ← c.truth.ensures, c.in-Value.is) c.origin_set.ensures
