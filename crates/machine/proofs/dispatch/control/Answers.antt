use Rattle.manual.specs.Control.{breakpoint, attention}
use Rattle.machine.proofs.dispatch.control.Goals as goal

pub returns-in-Branch : goal.returns-in-Branch
unfolding attention breakpoint
returns-in-Branch c = simp c.in-Branch.is (rw c.segment.ensures at c.branch-seg.ensures)

pub returns-in-Return : goal.returns-in-Return
unfolding attention breakpoint
returns-in-Return c = simp c.in-Return.is c.return_from.ensures

pub returns-in-NoOperation : goal.returns-in-NoOperation
unfolding attention breakpoint
returns-in-NoOperation c = simp (c.in-NoOperation.is, ← c.no_operation.ensures)

pub returns-in-Breakpoint : goal.returns-in-Breakpoint
unfolding attention breakpoint
returns-in-Breakpoint c = simp (c.in-Breakpoint.is)

pub returns-in-Attention : goal.returns-in-Attention
unfolding attention breakpoint
returns-in-Attention c = simp (c.in-Attention.is)
