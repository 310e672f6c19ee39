use Rattle.imports.specs.Records.{imported_load}
use Rattle.imports.proofs.parse.load_at.Goals as goal

pub returns-in_err-global-clause-ravel_after : goal.returns-in_err-global-clause-ravel_after
unfolding imported_load
returns-in_err-global-clause-ravel_after c = simp (c.from_residual.ensures, ← c.number_at.ensures, c.in_err-global.was)

pub returns-in_err-rank-clause-ravel_after : goal.returns-in_err-rank-clause-ravel_after
unfolding imported_load
returns-in_err-rank-clause-ravel_after c =
    simp (c.from_residual-in_err-rank.ensures, ← c.number_at.ensures, c.in_ok-global.was, ← c.number_at-2.ensures, c.in_err-rank.was)

pub returns-clause-ravel_after : goal.returns-clause-ravel_after
unfolding imported_load
returns-clause-ravel_after c = simp (← c.number_at.ensures, c.in_ok-global.was, ← c.number_at-2.ensures, c.in_ok-rank.was) c.lengths_at.ensures.ravel_after
