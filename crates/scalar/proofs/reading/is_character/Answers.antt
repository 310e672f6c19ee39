use Rattle.scalar.proofs.Operands.{character-bits}
use Rattle.scalar.proofs.reading.is_character.Goals as goal

pub returns : goal.returns
returns c = character-bits c.args.w
