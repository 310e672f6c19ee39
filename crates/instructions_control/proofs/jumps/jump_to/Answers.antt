use Rattle.instructions_control.proofs.jumps.jump_to.Goals as goal

pub returns-then-outside : goal.returns-then-outside
returns-then-outside c = simp (← c.outside.ensures, c.if-outside.true)

pub returns : goal.returns
returns c = simp (← c.outside.ensures, c.if-outside.false, ← c.go_on.ensures)
