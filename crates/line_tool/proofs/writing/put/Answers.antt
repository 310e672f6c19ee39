use native.Mathlib.Omega.{arith}
use Rattle.line_tool.proofs.Putting.{putting, putting-on, put_all, put_full, put-done, rest-on, rest-none}
use Rattle.line_tool.proofs.writing.put.Goals as goal

pub loop-b-init : goal.loop-b-init
loop-b-init c = (omega arith, omega arith, putting)

pub shape_of-out-then-out-to : goal.shape_of-out-then-out-to
shape_of-out-then-out-to c = c.loop-b.invariant.2.as_long

pub returns-then-out-to : goal.returns-then-out-to
returns-then-out-to c = put-done _ _ _ (put_full c.loop-b.invariant.2 (omega arith)) (omega arith)

pub loop-b-preserved : goal.loop-b-preserved
loop-b-preserved c = (omega arith, omega arith, putting-on c.loop-b.invariant.2 (rest-on c.args.text.now c.loop-b.b-index (omega arith)))

pub shape_of-out : goal.shape_of-out
shape_of-out c = c.loop-b.invariant.2.as_long

pub returns : goal.returns
returns c = put-done _ _ _ (put_all c.loop-b.invariant.2 (rest-none c.args.text.now {i = c.loop-b.b-index} (omega arith))) (omega arith)
