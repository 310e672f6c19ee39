use Rattle.scalar.specs.Operators.{minus}
use Rattle.scalar.proofs.sums.minus.Goals as goal

pub returns : goal.returns
unfolding minus
returns c = c.plus.ensures
