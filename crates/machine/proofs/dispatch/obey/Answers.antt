use Rattle.std.proofs.lemmas.Result.{err_from_is_err_and}
use mathlib.Core.Path.{refl}
use Rattle.manual.specs.Instructions.{plan_of}
use Rattle.machine.specs.Held.{running_of}
use Rattle.machine.proofs.Dispatching.{decoded_as, obeyed}
use Rattle.machine.proofs.dispatch.obey.Goals as goal

pub returns-in_err-instruction : goal.returns-in_err-instruction
returns-in_err-instruction c = let passed = err_from_is_err_and c.from_residual.result c.from_residual.ensures.1 in rw (passed.1, passed.2) (obeyed c.args.seg.now (running_of c.args.f.now) c.args.place.0 c.args.f.now.lent c.instruction_at.ensures c.in_err-instruction.was refl)

pub returns-in-Load : goal.returns-in-Load
unfolding plan_of
returns-in-Load c = obeyed _ _ _ c.args.f.now.lent c.instruction_at.ensures (decoded_as c.in_ok-instruction.was c.in-Load.is) c.load.ensures

pub returns-in-ShortConstant : goal.returns-in-ShortConstant
unfolding plan_of
returns-in-ShortConstant c = obeyed _ _ _ c.args.f.now.lent c.instruction_at.ensures (decoded_as c.in_ok-instruction.was c.in-ShortConstant.is) c.short_constant.ensures

pub returns-in-Scalar : goal.returns-in-Scalar
unfolding plan_of
returns-in-Scalar c = obeyed _ _ _ c.args.f.now.lent c.instruction_at.ensures (decoded_as c.in_ok-instruction.was c.in-Scalar.is) (rw c.named.ensures at c.scalar.ensures)

pub returns-in-Memory : goal.returns-in-Memory
unfolding plan_of
returns-in-Memory c = obeyed _ _ _ c.args.f.now.lent c.instruction_at.ensures (decoded_as c.in_ok-instruction.was c.in-Memory.is) c.memory_reference.ensures

pub returns-in-Stack : goal.returns-in-Stack
unfolding plan_of
returns-in-Stack c = obeyed _ _ _ c.args.f.now.lent c.instruction_at.ensures (decoded_as c.in_ok-instruction.was c.in-Stack.is) c.stack.ensures

pub returns-in-Array : goal.returns-in-Array
unfolding plan_of
returns-in-Array c = obeyed _ _ _ c.args.f.now.lent c.instruction_at.ensures (decoded_as c.in_ok-instruction.was c.in-Array.is) c.array.ensures

pub returns-in-Control : goal.returns-in-Control
unfolding plan_of
returns-in-Control c = obeyed _ _ _ c.args.f.now.lent c.instruction_at.ensures (decoded_as c.in_ok-instruction.was c.in-Control.is) c.control.ensures

pub returns-in-Jump : goal.returns-in-Jump
unfolding plan_of
returns-in-Jump c = obeyed _ _ _ c.args.f.now.lent c.instruction_at.ensures (decoded_as c.in_ok-instruction.was c.in-Jump.is) (c.jump_to.ensures (running_of c.args.f.now) refl)

pub returns-in-ConstantScalar : goal.returns-in-ConstantScalar
unfolding plan_of
returns-in-ConstantScalar c = obeyed _ _ _ c.args.f.now.lent c.instruction_at.ensures (decoded_as c.in_ok-instruction.was c.in-ConstantScalar.is) c.constant_scalar.ensures

pub returns-in-ConstantVector : goal.returns-in-ConstantVector
unfolding plan_of
returns-in-ConstantVector c = obeyed _ _ _ c.args.f.now.lent c.instruction_at.ensures (decoded_as c.in_ok-instruction.was c.in-ConstantVector.is) (rw c.args.f.now.lent at c.constant_vector.ensures)

pub returns-in-Call : goal.returns-in-Call
unfolding plan_of
returns-in-Call c = obeyed _ _ _ c.args.f.now.lent c.instruction_at.ensures (decoded_as c.in_ok-instruction.was c.in-Call.is) c.call.ensures

pub returns-in-Index : goal.returns-in-Index
unfolding plan_of
returns-in-Index c = obeyed _ _ _ c.args.f.now.lent c.instruction_at.ensures (decoded_as c.in_ok-instruction.was c.in-Index.is) c.index.ensures
