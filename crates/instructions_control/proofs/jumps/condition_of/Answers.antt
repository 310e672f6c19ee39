use Prim.Native.Nat.{ℕ}
use mathlib.Core.Path.{ap, ◌∙◌}
use mathlib.Core.List.{List, []}
use Rattle.manual.specs.Values.{value, truth_of_value}
use Rattle.std.specs.Prelude.{Some, None}
use Rattle.operands.specs.declared.reading.Value.TheVariants as values
use Rattle.operands.proofs.ValuesSeen.{array_whole}
use Rattle.instructions_control.proofs.Jumping.{truth-by}
use Rattle.instructions_control.proofs.jumps.condition_of.Goals as goal

pub returns-in_default : goal.returns-in_default
returns-in_default c = let a = c.args in truth-by a.seg.now a.w None (cc)

pub elements_of-requires : goal.elements_of-requires
elements_of-requires c = let a = c.args in array_whole a.seg.now a.w c.in-Array.array (cc)

pub returns-in-Scalar : goal.returns-in-Scalar
returns-in-Scalar c = let a = c.args in c.truth.ensures ∙ truth-by a.seg.now a.w (Some (values.Scalar c.in-Scalar.x)) (cc)

pub returns-in-Array : goal.returns-in-Array
returns-in-Array c = let a = c.args in c.only.ensures ∙ ap (λ (ravel : List ℕ). truth_of_value (value [] ravel)) c.elements_of.ensures ∙ truth-by a.seg.now a.w (Some (values.Array c.in-Array.array)) (cc)
