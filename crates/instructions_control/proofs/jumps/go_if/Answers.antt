use native.Mathlib.Omega.{arith}
use Rattle.std.proofs.lemmas.Result.{err_from_is_err_and}
use Rattle.instructions_control.proofs.Jumping.{go-if-none, go-if-trap, go-if-taken, go-if-passed}
use mathlib.Core.Path.{◌∙◌}
use Rattle.instructions_control.proofs.jumps.go_if.Goals as goal

pub returns-then-count-lt1 : goal.returns-then-count-lt1
returns-then-count-lt1 c = go-if-none _ _ _ _ _ (omega arith)

pub returns-in_err-condition : goal.returns-in_err-condition
returns-in_err-condition c = let a = c.args in
    let passed = err_from_is_err_and c.from_residual.result c.from_residual.ensures.1 in
    rw (passed.1, passed.2) (go-if-trap a.seg.now a.h a.next.0 a.wanted a.place.0 _ (omega arith) c.condition_of.ensures c.operand_at.ensures c.in_err-condition.was)

pub returns-then-condition-wanted : goal.returns-then-condition-wanted
returns-then-condition-wanted c = let a = c.args in (cc) ∙ go-if-taken a.seg.now a.h a.next.0 a.wanted a.place.0 _ (omega arith) c.condition_of.ensures c.operand_at.ensures c.in_ok-condition.was c.if-condition-wanted.true

pub returns : goal.returns
returns c = let a = c.args in go-if-passed a.seg.now a.h a.next.0 a.wanted a.place.0 _ (omega arith) c.condition_of.ensures c.operand_at.ensures c.in_ok-condition.was c.if-condition-wanted.false (cc)
