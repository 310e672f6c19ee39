use mathlib.Core.Path.{sym}
use lib.Seq.{set_out}
use Rattle.acceptance_storage.proofs.marks.lower.Goals as goal

pub returns-else-a-table : goal.returns-else-a-table
returns-else-a-table c = sym (set_out _ _ _ c.if-a-table.false)
