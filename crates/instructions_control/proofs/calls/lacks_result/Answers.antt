use mathlib.Core.Path.{◌∙◌}
use Rattle.instructions_control.proofs.Leaving.{lacks-seen}
use Rattle.instructions_control.proofs.calls.lacks_result.Goals as goal

pub returns-then-res : goal.returns-then-res
returns-then-res c = let a = c.args in (cc) ∙ lacks-seen a.seg.now a.res c.if-res.true
