use mathlib.Core.Path.{ap, ◌∙◌}
use native.Mathlib.Omega.{arith}
use Rattle.effects.specs.Sources.{operand_at}
use Rattle.std.specs.Prelude.{Some, None}
use Rattle.operands.specs.declared.reading.Value.TheVariants as values
use Rattle.operands.proofs.ValuesSeen.{array_whole}
use Rattle.effects.specs.Carried.{carry}
use Rattle.instructions_control.proofs.Jumping.{branch-none, branch-is}
use Rattle.instructions_control.proofs.jumps.branch.Goals as goal

pub returns-then-count-lt1 : goal.returns-then-count-lt1
returns-then-count-lt1 c = branch-none _ _ _ _ (omega arith)

pub returns-in_default : goal.returns-in_default
returns-in_default c = let a = c.args in ap (carry a.seg.now) (branch-is a.seg.now a.p.now a.block a.next.0 None (omega arith) (cc))

pub branch_by-requires : goal.branch_by-requires
branch_by-requires c = let a = c.args in array_whole a.seg.now (operand_at a.seg.now 0) c.in-Array.array (cc)

pub returns-in-Scalar : goal.returns-in-Scalar
returns-in-Scalar c = let a = c.args in c.branch_on.ensures ∙ ap (carry a.seg.now) (branch-is a.seg.now a.p.now a.block a.next.0 (Some (values.Scalar c.in-Scalar.w)) (omega arith) (cc))

pub returns-in-Array : goal.returns-in-Array
returns-in-Array c = let a = c.args in c.branch_by.ensures ∙ ap (carry a.seg.now) (branch-is a.seg.now a.p.now a.block a.next.0 (Some (values.Array c.in-Array.array)) (omega arith) (cc))
