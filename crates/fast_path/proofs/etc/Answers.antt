use mathlib.Core.Path.{sym, ap, ◌∙◌}
use Rattle.instruction.specs.declared.table.EtcSuboperation.{EtcSuboperation}
use Rattle.std.proofs.Common.{Option, Some}
use Rattle.instruction.specs.Lengths.{etc_length}
use Rattle.fast_path.specs.Answers.{next_after}
use Rattle.fast_path.proofs.Answers.{left}
use Rattle.fast_path.proofs.Decoding.{etc-by, stack-by, constant-in}
use borrow.Author.Rules.{rules}
use Rattle.fast_path.proofs.etc.Goals as goal

pub jump_to-requires : goal.jump_to-requires
jump_to-requires c = c.after.ensures ∙ ap (λ (sub : Option EtcSuboperation). next_after c.args.place (etc_length sub)) (sym c.etc_of.ensures ∙ c.in-Some.is ∙ ap Some c.in-Jump.is)

pub constant_scalar-requires : goal.constant_scalar-requires
constant_scalar-requires c = record { seg_len_bound = search rules; next_value = c.after-in-ConstantScalar.ensures ∙ ap (λ (sub : Option EtcSuboperation). next_after c.args.place (etc_length sub)) (sym c.etc_of.ensures ∙ c.in-Some.is ∙ ap Some c.in-ConstantScalar.is) }

pub returns-in-Jump : goal.returns-in-Jump
returns-in-Jump c = λ f. λ of. etc-by _ f _ _ (sym c.etc_of.ensures ∙ c.in-Some.is ∙ ap Some c.in-Jump.is) (c.jump_to.ensures f of)

pub returns-in-Stack : goal.returns-in-Stack
returns-in-Stack c = λ f. λ of. stack-by _ f _ _ (sym c.etc_of.ensures ∙ c.in-Some.is ∙ ap Some c.in-Stack.is) c.after-in-Stack.ensures c.stack_operation.ensures

pub returns-in-ConstantScalar : goal.returns-in-ConstantScalar
returns-in-ConstantScalar c = λ f. λ of. constant-in _ f _ _ (sym c.etc_of.ensures ∙ c.in-Some.is ∙ ap Some c.in-ConstantScalar.is) (c.constant_scalar.ensures f tt)

pub returns-in_default : goal.returns-in_default
returns-in_default c = λ f. λ of. left

pub returns-in_default-sub : goal.returns-in_default-sub
returns-in_default-sub c = λ f. λ of. left
