use native.Mathlib.Omega.{arith}
use Rattle.instructions_control.proofs.Leaving.{left_busy, left-bottom, left-lacking, left-allowed}
use Rattle.instructions_control.proofs.calls.may_leave.Goals as goal

pub returns-then-temporaries-gt0 : goal.returns-then-temporaries-gt0
returns-then-temporaries-gt0 c = let a = c.args in λ before. left_busy a.seg.now a.h a.temporaries before (omega arith)

pub returns-then-is_bottom : goal.returns-then-is_bottom
returns-then-is_bottom c = let a = c.args in λ before. left-bottom a.seg.now a.h a.temporaries before (omega arith) (cc)

pub returns-then-lacks_result : goal.returns-then-lacks_result
returns-then-lacks_result c = let a = c.args in λ before. left-lacking a.seg.now a.h a.temporaries before (omega arith) (cc) (cc)

pub returns : goal.returns
returns c = let a = c.args in λ before. left-allowed a.seg.now a.h a.temporaries before (omega arith) (cc) (cc)
