use Prim.Native.Nat.{ℕ, ◌-◌}
use mathlib.Core.Path.{sym, ap, ◌∙◌}
use Rattle.std.proofs.lemmas.Result.{err_from_is_err_and}
use Rattle.operands.proofs.Seen.{count-seen}
use Rattle.instructions_control.proofs.Leaving.{dropping-trap, dropping-left}
use Rattle.instructions_control.proofs.calls.leave_by_branch.Goals as goal

pub returns-in_err-may_leave : goal.returns-in_err-may_leave
returns-in_err-may_leave c = let a = c.args in let passed = err_from_is_err_and c.from_residual.result c.from_residual.ensures.1 in rw (passed.1, passed.2) (dropping-trap a.seg.now a.h _ c.may_leave.ensures (c.saturating_sub.ensures ∙ ap (λ (k : ℕ). k - 1) (c.count.ensures ∙ sym (count-seen _))) c.in_err-may_leave.was)

pub returns : goal.returns
returns c = let a = c.args in dropping-left a.seg.now a.h _ c.may_leave.ensures (c.saturating_sub.ensures ∙ ap (λ (k : ℕ). k - 1) (c.count.ensures ∙ sym (count-seen _))) c.in_ok-may_leave.was (cc)
