use Rattle.imports_cases.proofs.after.Goals as goal

pub returns-in-Load : goal.returns-in-Load
returns-in-Load c = λ place passes. rw c.in-Load.is at passes

pub returns-in-Run : goal.returns-in-Run
returns-in-Run c = λ place passes. rw c.in-Run.is at passes
