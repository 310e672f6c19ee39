use Rattle.operands.specs.Operands.{is_undefined_word}
use Rattle.operands.proofs.ValuesSeen.{defined}
use Rattle.operands.proofs.reading.is_undefined.Goals as goal

pub returns-in-Undefined : goal.returns-in-Undefined
unfolding is_undefined_word
returns-in-Undefined c = simp (← c.of.ensures, ← c.kind.ensures, c.in-Undefined.is)

pub returns-in_default : goal.returns-in_default
returns-in_default c = rw (← c.of.ensures) (defined _ _ c.kind.ensures c.in_default.not-Undefined)
