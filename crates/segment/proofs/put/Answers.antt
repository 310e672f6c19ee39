use lib.Seq.{set_out}
use mathlib.Core.Path.{sym}
use Rattle.segment.proofs.put.Goals as goal

pub returns-else-i-seg : goal.returns-else-i-seg
returns-else-i-seg c = sym (set_out _ _ _ c.if-i-seg.false)
