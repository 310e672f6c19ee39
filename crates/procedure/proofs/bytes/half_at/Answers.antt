use Rattle.procedure.specs.Bytes.{half_at}
use Rattle.procedure.proofs.bytes.half_at.Goals as goal

pub returns : goal.returns
unfolding half_at
returns c = simp (← c.byte_at.ensures, ← c.byte_at-2.ensures)
