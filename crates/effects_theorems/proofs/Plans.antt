-- A plan goes by no more of what is seen than the running function's variables and its result.
use Rattle.std.proofs.Common.{Option, Some, None}
use Prim.Native.Nat.{ℕ, zero, suc, ◌-◌}
use mathlib.Core.Path.{◌≡◌, refl, sym, ◌∙◌, ap}
use mathlib.Core.List.{List, ◌∷◌}
use lib.ListN.{length}
use Rattle.scalar.specs.declared.Whole.{Whole}
use Rattle.scalar.specs.declared.Whole.TheVariants as W
use Rattle.procedure.specs.declared.header.Header.{Header}
use Rattle.descriptor.specs.declared.address.CodeAddress.{CodeAddress}
use Rattle.operator.specs.declared.Operator.TheVariants as O
use Rattle.instruction.specs.declared.Address.{Address}
use Rattle.instruction.specs.declared.Address.TheVariants as A
use Rattle.instruction.specs.declared.MemoryOperation.TheVariants as M
use Rattle.instruction.specs.declared.StackOperation.TheVariants as S
use Rattle.instruction.specs.declared.ArrayOperation.TheVariants as R
use Rattle.instruction.specs.declared.ControlOperation.TheVariants as C
use Rattle.instruction.specs.declared.Jump.TheVariants as J
use Rattle.instruction.specs.declared.Instruction.{Instruction}
use Rattle.instruction.specs.declared.Instruction.TheVariants as I
use Rattle.std.proofs.Common.{Result, Ok, Err}
use Rattle.trap.specs.declared.Trap.{Trap}
use Rattle.instruction.specs.declared.Decoded.{Decoded}
use Rattle.instruction.specs.Decoding.{instruction_at}
use Rattle.segment.specs.State.{sbase}
use Rattle.segment.specs.Cells.{Cell}
use Rattle.segment.specs.View.{view}
use Rattle.manual.specs.Seen.{Seen, variables_of, seen_of}
use Rattle.manual.specs.Loads.{load, refer_to, test_defined, push_undefined, get_origin, short_constant, constant_scalar, constant_vector}
use Rattle.manual.specs.Scalars.{operands, monadic, dyadic, shape, ravel, reshape, catenate, index_generator, set_origin, index}
use Rattle.manual.specs.Memory.{assign, assign_no_result, assign_indexed, eat, interchange, no_operation}
use Rattle.manual.specs.Control.{line_or_leave, line_number, branch_to, go, go_if, return, branch, call, breakpoint, attention}
use Rattle.manual.specs.Program.{under_table}
use Rattle.manual.specs.Instructions.{Running, header_of, code_in, resolve, plan_of, plan_decoded, plan_at}
use Rattle.effects.specs.Seen.{seen}
use Rattle.effects.specs.Sound.{Sound}
use Rattle.effects.specs.Alike.{seen_by, HasFrame}
use Rattle.effects_theorems.specs.Plans.{PlansTheorems}
use Rattle.effects_theorems.proofs.Seen.{seen-theorem}

module _ (f : Running) (all : Seen) where
  abbrev h : Header
  h = header_of f

  abbrev some : Seen
  some = seen_by (variables_of h) h.result all

  resolve-by : (a : Address) → resolve all h a ≡ resolve some h a
  resolve-by (A.Local v) = refl
  resolve-by (A.Global g) = refl

  operands-by : (i n : ℕ) → operands all i n ≡ operands some i n
  operands-by i zero = refl
  operands-by i (suc n) = ap (λ (cs : List Cell). all.operand i ∷ cs) (operands-by (suc i) n)

  line-by : (line : Option CodeAddress) → line_or_leave all h line ≡ line_or_leave some h line
  line-by (Some place) = refl
  line-by None = refl

  branch_by : (line : ℕ → Option CodeAddress) (w : Whole) → branch_to all h line w ≡ branch_to some h line w
  branch_by line (W.Number negative n) = line-by (line (line_number negative n))
  branch_by line W.Fraction = refl
  branch_by line W.Character = refl

  plan-by : (i : Instruction) (next : ℕ) → plan_of f all i next ≡ plan_of f some i next
  unfolding plan_of load refer_to test_defined push_undefined get_origin short_constant constant_scalar constant_vector monadic dyadic shape ravel reshape catenate index_generator set_origin index assign assign_no_result assign_indexed eat interchange no_operation go go_if return branch call breakpoint attention
  plan-by (I.Load a) next = rw (resolve-by a)
  plan-by (I.ShortConstant negative magnitude) next = refl
  plan-by (I.Scalar (O.Monadic op)) next = refl
  plan-by (I.Scalar (O.Dyadic op)) next = refl
  plan-by (I.Memory (M.AssignIndexed rank) a) next = simp (resolve-by, operands-by)
  plan-by (I.Memory M.Assign a) next = rw (resolve-by a)
  plan-by (I.Memory M.AssignNoResult a) next = rw (resolve-by a)
  plan-by (I.Memory M.Reference a) next = rw (resolve-by a)
  plan-by (I.Memory M.TestDefined a) next = rw (resolve-by a)
  plan-by (I.Stack S.Undefined) next = refl
  plan-by (I.Stack S.Eat1) next = refl
  plan-by (I.Stack S.Interchange) next = refl
  plan-by (I.Stack S.SetOrigin) next = refl
  plan-by (I.Stack S.GetOrigin) next = refl
  plan-by (I.Array R.Shape) next = refl
  plan-by (I.Array R.Reshape) next = refl
  plan-by (I.Array R.Ravel) next = refl
  plan-by (I.Array R.Catenate) next = refl
  plan-by (I.Array R.IndexGenerator) next = refl
  plan-by (I.Control C.Branch) next = simp branch_by
  plan-by (I.Control C.Return) next = refl
  plan-by (I.Control C.NoOperation) next = refl
  plan-by (I.Control C.Breakpoint) next = refl
  plan-by (I.Control C.Attention) next = refl
  plan-by (I.Jump J.Go place) next = refl
  plan-by (I.Jump J.GoTrue place) next = refl
  plan-by (I.Jump J.GoFalse place) next = refl
  plan-by (I.ConstantScalar w) next = refl
  plan-by (I.ConstantVector count first) next = refl
  plan-by (I.Call arguments alternate number) next = refl
  plan-by (I.Index rank) next = simp operands-by

module _ (s : List ℕ) (g : Sound s) (f : Running) (runs : HasFrame s (variables_of (header_of f)) (header_of f).result) where
  plan-theorem : (i : Instruction) (next : ℕ) → plan_of f (seen s) i next ≡ plan_of f (seen_of (length s - sbase s) (view s)) i next
  plan-theorem i next =
      plan-by f (seen s) i next
      ∙ ap (λ (q : Seen). plan_of f q i next) (seen-theorem s g (variables_of (header_of f)) (header_of f).result runs)
      ∙ sym (plan-by f (seen_of (length s - sbase s) (view s)) i next)

  decoded-theorem : (d : Result Decoded Trap) → plan_decoded f (seen s) d ≡ plan_decoded f (seen_of (length s - sbase s) (view s)) d
  decoded-theorem (Ok d) = plan-theorem (under_table f.program.table d.instruction) d.next.0
  decoded-theorem (Err t) = refl

  plan_at-theorem : (place : ℕ) → plan_at f (seen s) place ≡ plan_at f (seen_of (length s - sbase s) (view s)) place
  unfolding plan_at
  plan_at-theorem place = decoded-theorem (instruction_at (code_in f) place)

pub plans-theorems : PlansTheorems
plans-theorems = record { plan = plan-theorem; decoded = plan_at-theorem }
