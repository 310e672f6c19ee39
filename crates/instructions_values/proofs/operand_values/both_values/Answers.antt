use mathlib.Core.Path.{refl, sym, ◌∙◌}
use Rattle.std.proofs.lemmas.Result.{err_from_is_err_and}
use Rattle.instructions_values.proofs.Taking.{both-ended, both_found}
use Rattle.instructions_values.proofs.operand_values.both_values.Goals as goal

pub returns-in_err-second : goal.returns-in_err-second
returns-in_err-second c =
    let passed = err_from_is_err_and c.from_residual-in_err-second.result c.from_residual-in_err-second.ensures.1 in
    rw (passed.1, passed.2) (both-ended c.in_ok-first.ensures _ refl (sym c.value_at.ensures ∙ c.in_err-second.was))

pub returns : goal.returns
returns c = both_found c.in_ok-first.ensures _ refl (sym c.value_at.ensures ∙ c.in_ok-second.was)
