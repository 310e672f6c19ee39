use mathlib.Core.Path.{◌∙◌}
use Rattle.fast_path.proofs.Answers.{left}
use Rattle.fast_path.proofs.Decoding.{constant_by}
use Rattle.fast_path.proofs.short_constant.Goals as goal

pub returns-then-code-at : goal.returns-then-code-at
returns-then-code-at c = λ f. λ of. left

pub returns : goal.returns
returns c = λ f. λ of. constant_by _ f _ _ _ c.number.ensures c.if-code-at.false c.half-half.ensures (c.word-w.ensures ∙ c.integer.ensures) c.after.ensures c.push.ensures
