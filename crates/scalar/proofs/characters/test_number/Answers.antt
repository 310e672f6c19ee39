use Rattle.std.proofs.Common.{Bool, not, ap, Ok}
use Rattle.descriptor.specs.Kinds.{bit}
use Rattle.scalar.specs.Operators.{test_number}
use Rattle.scalar.proofs.characters.test_number.Goals as goal

pub returns : goal.returns
unfolding test_number
returns c = ap (λ (t : Bool). Ok (bit (not t))) c.is_character.ensures
