use mathlib.Core.Path.{sym, ap, ◌∙◌}
use Rattle.descriptor.specs.Kinds.{kind_of}
use Rattle.fast_path.proofs.Answers.{left}
use Rattle.fast_path.proofs.Pushing.{scalar-followed, array-followed}
use Rattle.fast_path.proofs.doing.load_referred.Goals as goal

pub returns-in_default : goal.returns-in_default
returns-in_default c = λ t. λ held. left

pub returns-then-is_scalar : goal.returns-then-is_scalar
returns-then-is_scalar c = λ t. λ held. scalar-followed _ _ t _ held (c.kind.ensures ∙ ap kind_of c.of.ensures) c.in-Indirect.is c.held-referred.ensures (sym c.is_scalar.ensures ∙ c.if-is_scalar.true) c.push.ensures

pub returns-then-is_array : goal.returns-then-is_array
returns-then-is_array c = λ t. λ held. array-followed _ _ t _ held (c.kind.ensures ∙ ap kind_of c.of.ensures) c.in-Indirect.is c.held-referred.ensures (sym c.is_array.ensures ∙ c.if-is_array.true) c.push_array.ensures

pub returns : goal.returns
returns c = λ t. λ held. left
