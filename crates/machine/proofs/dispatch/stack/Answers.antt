use Rattle.machine.proofs.dispatch.stack.Goals as goal

pub returns-in-Undefined : goal.returns-in-Undefined
returns-in-Undefined c = simp c.in-Undefined.is (cc)

pub returns-in-Eat1 : goal.returns-in-Eat1
returns-in-Eat1 c = simp c.in-Eat1.is (cc)

pub returns-in-Interchange : goal.returns-in-Interchange
returns-in-Interchange c = simp c.in-Interchange.is (cc)

pub returns-in-SetOrigin : goal.returns-in-SetOrigin
returns-in-SetOrigin c = simp c.in-SetOrigin.is (cc)

pub returns-in-GetOrigin : goal.returns-in-GetOrigin
returns-in-GetOrigin c = simp c.in-GetOrigin.is (cc)
