-- The results that take the place of operands fit.
use Prim.Native.Nat.{ℕ}
use mathlib.Core.List.{List}
use native.Mathlib.Omega.{arith}
use Rattle.instruction.specs.declared.Instruction.{Instruction}
use Rattle.manual.specs.Values.{Value}
use Rattle.manual.specs.Seen.{Seen, variables_of}
use Rattle.manual.specs.Instructions.{Running, header_of}
use Rattle.manual.specs.Cases.{Result, of_monadic, of_dyadic, of_shape, of_ravel, of_reshape, of_catenate, of_index_generator, of_index}
use Rattle.scalar_theorems.specs.Validity.{Valid}
use Rattle.plan_theorems.proofs.Given.{given}
use Rattle.plan_theorems.proofs.Lists.{all-get_or}
use Rattle.plan_theorems.proofs.Values.{valid-length, ValueFits, scalar_fits}
use Rattle.plan_theorems.proofs.Operators.{monadic-fits, dyadic-fits}
use Rattle.plan_theorems.proofs.Arrays.{shape-fits, ravel-fits, catenate-fits, index-fits, reshape-fits}
use Rattle.plan_theorems.proofs.Sees.{Sees, operand-stored, operand-fits}

module _ {s : List ℕ} {f : Running} {v : Seen} (h : Sees s (variables_of (header_of f)) v) where
  pub result_fits : {i : Instruction} {n : ℕ} {r : Value} → Result f v i n r → ValueFits r
  result_fits (of_monadic {op} {a} p e) = given ValueFits _ _ (monadic-fits op a (operand-fits h 0 p)) e
  result_fits (of_dyadic {op} {a} {b} p q e) = given ValueFits _ _ (dyadic-fits op a b (operand-fits h 0 p) (operand-fits h 1 q)) e
  result_fits (of_shape {a} p) = shape-fits a (operand-fits h 0 p)
  result_fits (of_ravel {a} p) = ravel-fits a (operand-stored h 0 p)
  result_fits (of_reshape {a} {b} p q e) = given ValueFits _ _ (reshape-fits a b (operand-fits h 0 p) (operand-fits h 1 q)) e
  result_fits (of_catenate {a} {b} p q e) = given ValueFits _ _ (catenate-fits a b (operand-fits h 0 p) (operand-fits h 1 q)) e
  result_fits (of_index_generator {a} p e) = given ValueFits _ _ (index-fits v.origin a h.origin) e
  result_fits (of_index {rank} {k} {a} p n c e) = scalar_fits _ (all-get_or Valid a.ravel k (valid-length 0 (omega arith)) (operand-fits h 0 p).scalars)
