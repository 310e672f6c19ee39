use mathlib.Core.Path.{sym, ◌∙◌}
use Rattle.fast_path.proofs.Pushing.{scalar-loaded, array-loaded, referred-loaded}
use Rattle.fast_path.proofs.doing.load_from.Goals as goal

pub returns-then-is_scalar : goal.returns-then-is_scalar
returns-then-is_scalar c = λ resolved. λ t. λ stands. scalar-loaded _ _ stands c.word-w.ensures (sym c.is_scalar.ensures ∙ c.if-is_scalar.true) c.push.ensures

pub returns-then-is_array : goal.returns-then-is_array
returns-then-is_array c = λ resolved. λ t. λ stands. array-loaded _ _ stands c.word-w.ensures (sym c.is_array.ensures ∙ c.if-is_array.true) c.push_array.ensures

pub returns : goal.returns
returns c = λ resolved. λ t. λ stands. referred-loaded _ _ stands c.word-w.ensures c.load_referred.ensures
