use Rattle.imports.specs.Records.{imported_run}
use Rattle.imports.proofs.parse.run_at.Goals as goal

pub returns-in_err-budget-clause-by_index : goal.returns-in_err-budget-clause-by_index
unfolding imported_run
returns-in_err-budget-clause-by_index c = λ lengths ravel. simp (c.from_residual.ensures, ← c.number_at.ensures, c.in_err-budget.was)

pub returns-clause-by_index : goal.returns-clause-by_index
unfolding imported_run
returns-clause-by_index c = λ lengths ravel. simp (← c.number_at.ensures, c.in_ok-budget.was)
