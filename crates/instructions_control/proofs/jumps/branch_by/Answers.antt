use mathlib.Core.Path.{sym, ◌∙◌}
use native.Mathlib.Omega.{arith}
use Rattle.instructions_control.proofs.Jumping.{branch-matrix, branch-empty, branch-first}
use Rattle.instructions_control.proofs.jumps.branch_by.Goals as goal

pub returns-then-rank-gt1 : goal.returns-then-rank-gt1
returns-then-rank-gt1 c = let a = c.args in branch-matrix a.seg.now a.p.now a.block a.next.0 a.array c.requires (omega arith)

pub returns-then-is_empty : goal.returns-then-is_empty
returns-then-is_empty c = let a = c.args in branch-empty a.seg.now a.p.now a.block a.next.0 a.array c.requires (omega arith) c.elements_of-ravel.ensures (sym c.is_empty.ensures ∙ c.if-is_empty.true) (cc)

pub returns : goal.returns
returns c = let a = c.args in c.branch_on.ensures ∙ branch-first a.seg.now a.p.now a.block a.next.0 a.array c.requires (omega arith) c.elements_of-ravel.ensures (sym c.is_empty.ensures ∙ c.if-is_empty.false)
