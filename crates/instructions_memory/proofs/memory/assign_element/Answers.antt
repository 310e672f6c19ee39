use mathlib.Core.Path.{sym, ◌∙◌}
use native.Mathlib.Omega.{arith}
use Rattle.std.proofs.lemmas.Result.{err_from_is_err_and}
use Rattle.instructions_memory.proofs.Indexing.{indexed-missing, indexed-other, indexed-trapped, indexed-scalar, indexed-array, same-variable}
use borrow.Author.Rules.{rules}
use Rattle.instructions_memory.proofs.memory.assign_element.Goals as goal

pub returns-then-count-rank : goal.returns-then-count-rank
returns-then-count-rank c = indexed-missing _ _ _ _ _ (omega arith)

pub returns-in_default : goal.returns-in_default
returns-in_default c = indexed-other _ _ _ _ _ (omega (arith, c.if-count-rank.false, c.count.ensures)) (sym c.value_of.ensures ∙ c.in_default.is)

pub returns-in_err-take_scalars : goal.returns-in_err-take_scalars
returns-in_err-take_scalars c = let passed = err_from_is_err_and c.from_residual.result c.from_residual.ensures.1 in
    rw (passed.1, passed.2) (indexed-trapped _ _ _ _ _ (omega arith) _ (sym c.value_of.ensures ∙ c.in-Some.is) _ _ c.in_err-take_scalars.was c.take_scalars.ensures)

pub element_in-requires : goal.element_in-requires
element_in-requires c = record { seg_len_bound = (search rules, search rules, search rules, search rules); indexed = indexed-array _ c.args.next.0 _ _ _ (omega arith) _ (sym c.value_of.ensures ∙ c.in-Some.is) _ _ _ c.in_ok-take_scalars.was c.take_scalars.ensures c.in-Array.is c.requires.3 }

pub returns-in-Scalar : goal.returns-in-Scalar
returns-in-Scalar c = indexed-scalar _ _ _ _ _ (omega arith) _ (sym c.value_of.ensures ∙ c.in-Some.is) _ _ _ c.in_ok-take_scalars.was c.take_scalars.ensures c.in-Scalar.is

pub returns-in-Array : goal.returns-in-Array
returns-in-Array c = c.element_in.ensures ∙ same-variable _ _ _ _ _ c.requires.3
