use lib.ListN.{get_or-eq_default}
use mathlib.Core.Path.{sym}
use Rattle.procedure.proofs.bytes.byte_at.Goals as goal

pub returns : goal.returns
returns c = sym (get_or-eq_default c.args.p.now 0 c.if-at-p.false)
