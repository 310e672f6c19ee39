use mathlib.Core.Path.{sym, ◌∙◌}
use Rattle.std.proofs.lemmas.Result.{err_from_is_err_and}
use Rattle.operands.proofs.Seen.{count-seen}
use Rattle.instructions_control.proofs.Leaving.{return-trap, return-left}
use Rattle.instructions_control.proofs.calls.return_from.Goals as goal

pub returns-in_err-may_leave : goal.returns-in_err-may_leave
returns-in_err-may_leave c = let a = c.args in let passed = err_from_is_err_and c.from_residual.result c.from_residual.ensures.1 in rw (passed.1, passed.2) (return-trap a.seg.now a.h _ c.may_leave.ensures (c.count.ensures ∙ sym (count-seen _)) c.in_err-may_leave.was)

pub returns : goal.returns
returns c = let a = c.args in return-left a.seg.now a.h _ c.may_leave.ensures (c.count.ensures ∙ sym (count-seen _)) c.in_ok-may_leave.was (cc)
