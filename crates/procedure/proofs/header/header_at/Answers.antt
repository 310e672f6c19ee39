use Rattle.procedure.specs.Headers.{header_at}
use Rattle.procedure.proofs.header.header_at.Goals as goal

pub returns : goal.returns
unfolding header_at
returns c = simp (← c.word_at-word0.ensures, ← c.word_at-word1.ensures)
