use Rattle.effects_code.proofs.frames.leave.Goals as goal

pub returns-then-res : goal.returns-then-res
returns-then-res c = simp c.if-res.true c.leave_with.ensures

pub returns-else-res : goal.returns-else-res
returns-else-res c = simp c.if-res.false c.leave_without.ensures
