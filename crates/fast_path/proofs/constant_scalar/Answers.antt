use mathlib.Core.Path.{refl, sym, ◌∙◌}
use Rattle.fast_path.proofs.Answers.{left}
use Rattle.fast_path.proofs.Decoding.{constant-scalar-by}
use Rattle.fast_path.proofs.constant_scalar.Goals as goal

pub returns-then-code-at : goal.returns-then-code-at
returns-then-code-at c = λ f. λ of. left

pub returns-then-is_scalar : goal.returns-then-is_scalar
returns-then-is_scalar c = λ f. λ of. constant-scalar-by _ f _ _ c.number.ensures c.if-code-at.false c.half-high.ensures c.half-low.ensures refl c.requires.next_value (sym c.is_scalar.ensures ∙ c.if-is_scalar.true) c.push.ensures

pub returns : goal.returns
returns c = λ f. λ of. left
