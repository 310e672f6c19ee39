use Rattle.instructions_control.proofs.jumps.go_on.Goals as goal

pub returns : goal.returns
returns c = simp (← c.discard.ensures, ← c.jump.ensures)
