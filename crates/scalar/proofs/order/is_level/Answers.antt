use Rattle.std.proofs.Common.{eqb, ap₂}
use Rattle.scalar.proofs.order.is_level.Goals as goal

pub returns : goal.returns
returns c = ap₂ eqb c.place.ensures c.place-2.ensures
