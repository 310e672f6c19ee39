use Rattle.machine.proofs.dispatch.jump_to.Goals as goal

pub returns-in-Go : goal.returns-in-Go
returns-in-Go c = λ f is. simp c.in-Go.is (rw is c.go.ensures)

pub returns-in-GoTrue : goal.returns-in-GoTrue
returns-in-GoTrue c = λ f is. simp c.in-GoTrue.is (rw is c.go_if.ensures)

pub returns-in-GoFalse : goal.returns-in-GoFalse
returns-in-GoFalse c = λ f is. simp c.in-GoFalse.is (rw is c.go_if-in-GoFalse.ensures)
