use Rattle.instructions_control.proofs.jumps.branch_to.Goals as goal

pub returns-in-Some : goal.returns-in-Some
returns-in-Some c = simp (← c.line.ensures, c.in-Some.is, ← c.jump_to.ensures)

pub returns-in-None : goal.returns-in-None
returns-in-None c = simp (← c.line.ensures, c.in-None.is, ← c.leave_by_branch.ensures)
