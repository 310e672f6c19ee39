-- A variable as it was resolved; what was done of the instruction that was decoded at a place.
use Rattle.std.specs.Prelude.{Result}
use Rattle.trap.specs.declared.Trap.{Trap}
use Prim.Native.Nat.{ℕ}
use mathlib.Core.Path.{◌≡◌, ap, ◌∙◌}
use mathlib.Core.List.{List}
use Rattle.procedure.specs.declared.header.Header.{Header}
use Rattle.instruction.specs.declared.Address.{Address}
use Rattle.std.proofs.Common.{Result, Ok}
use Rattle.trap.specs.declared.Trap.{Trap}
use Rattle.instruction.specs.declared.Instruction.{Instruction}
use Rattle.instruction.specs.declared.Decoded.{Decoded}
use Rattle.instruction.specs.Decoding.{done, instruction_at}
use Rattle.manual.specs.Seen.{variables_of}
use Rattle.manual.specs.Instructions.{Running, code_in, resolve, plan_decoded, plan_at}
use Rattle.effects.specs.Seen.{seen}
use Rattle.effects.specs.declared.Outcome.{Outcome}
use Rattle.effects.specs.Carried.{CarriesOut}
use Rattle.operands.specs.declared.variables.Variable.{Variable}
use Rattle.operands.specs.Variables.{resolved, variable_seen}
use Rattle.operands.proofs.Resolving.{resolved-seen}

-- an instruction that was decoded, once it is known as `i`
pub decoded_as : {d : Result Decoded Trap} {e : Decoded} {i : Instruction} → d ≡ Ok e → e.instruction ≡ i → d ≡ done i e.next
decoded_as {e = e} told is = told ∙ ap (λ (j : Instruction). done j e.next) is

module _ (s : List ℕ) where
  pub variable-seen : (h : Header) (a : Address) {variables : ℕ} {r : Result Variable Trap} → variables ≡ variables_of h → r ≡ resolved s variables a → variable_seen s r ≡ resolve (seen s) h a
  variable-seen h a {variables} count found = ap (variable_seen s) found ∙ resolved-seen s variables h a count

  -- the plan of what is decoded at a place of the code, once it is known as `e`
  pub obeyed : (f : Running) (place : ℕ) {code : List ℕ} {d e : Result Decoded Trap} {r : Result Outcome Trap} {t : List ℕ} → code ≡ code_in f → d ≡ instruction_at code place → d ≡ e → CarriesOut s r t (λ sees. plan_decoded f sees e) → CarriesOut s r t (λ sees. plan_at f sees place)
  unfolding plan_at
  obeyed f place is read told done = done ∙ rw (← told, read, is)
