use native.Mathlib.Omega.{arith}
use mathlib.Core.Path.{sym, ◌∙◌}
use Rattle.imports.specs.Records.{record_at}
use Rattle.imports.proofs.Parsing.{loads, runs, of-no-kind, passes}
use Rattle.imports.proofs.parse.record_at.Goals as goal

pub returns-in_err-kind-clause-ravel_after : goal.returns-in_err-kind-clause-ravel_after
unfolding record_at
returns-in_err-kind-clause-ravel_after c = simp (c.from_residual.ensures, ← c.number_at.ensures, c.in_err-kind.was)

pub returns-in-0-clause-ravel_after : goal.returns-in-0-clause-ravel_after
returns-in-0-clause-ravel_after c = c.load_at.ensures.ravel_after ∙ loads _ _ _ _ (sym c.number_at.ensures ∙ c.in_ok-kind.was) c.in-0.is

pub returns-in-0-clause-usable : goal.returns-in-0-clause-usable
returns-in-0-clause-usable c =
    (c.load_at.ensures.few, passes _ _ _ _ _ (c.load_at.ensures.ravel_after ∙ loads _ _ _ _ (sym c.number_at.ensures ∙ c.in_ok-kind.was) c.in-0.is))

pub returns-in-1-clause-ravel_after : goal.returns-in-1-clause-ravel_after
returns-in-1-clause-ravel_after c =
    c.run_at.ensures.by_index _ _ ∙ runs _ _ _ _ (sym c.number_at.ensures ∙ c.in_ok-kind.was) (omega arith) c.in-1.is

pub returns-in-1-clause-usable : goal.returns-in-1-clause-usable
returns-in-1-clause-usable c =
    let args = c.args in (
      c.run_at.ensures.few,
      passes _ args.lengths.now args.ravel.now _ _
          (c.run_at.ensures.by_index _ _ ∙ runs _ _ _ _ (sym c.number_at.ensures ∙ c.in_ok-kind.was) (omega arith) c.in-1.is),
    )

pub returns-in_default-clause-ravel_after : goal.returns-in_default-clause-ravel_after
returns-in_default-clause-ravel_after c = of-no-kind _ _ _ _ (sym c.number_at.ensures ∙ c.in_ok-kind.was) (omega arith) (omega arith)
