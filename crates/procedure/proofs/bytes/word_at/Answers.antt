use Rattle.procedure.specs.Bytes.{word_at}
use Rattle.procedure.proofs.bytes.word_at.Goals as goal

pub returns-then-i-p : goal.returns-then-i-p
unfolding word_at
returns-then-i-p c = c.word_of.ensures

pub returns : goal.returns
unfolding word_at
returns c = simp (← c.byte_at.ensures, ← c.byte_at-2.ensures, ← c.byte_at-3.ensures, ← c.byte_at-4.ensures, ← c.word_of-2.ensures)
