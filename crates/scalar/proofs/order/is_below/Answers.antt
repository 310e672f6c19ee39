use Rattle.std.proofs.Common.{ltb, ap₂}
use Rattle.scalar.proofs.order.is_below.Goals as goal

pub returns : goal.returns
returns c = ap₂ ltb c.place.ensures c.place-2.ensures
