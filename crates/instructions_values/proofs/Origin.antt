-- SETORIGIN from its operand on.
use Prim.Native.Nat.{ℕ}
use mathlib.Core.Path.{◌≡◌}
use mathlib.Core.List.{List, [], ◌∷◌}
use Rattle.descriptor.specs.Kinds.{bit}
use Rattle.manual.specs.OrTrap.{gives, and_then}
use Rattle.manual.specs.Effects.{word, replaces, jumps, sets_origin}
use Rattle.manual.specs.Values.{truth_of_value}
use Rattle.manual.specs.Scalars.{set_origin}
use Rattle.effects.specs.Seen.{seen}
use Rattle.operands.specs.declared.reading.Value.{Value as Operand}
use Rattle.operands.specs.Operands.{held}
use Rattle.operands.proofs.Seen.{origin-seen}
use Rattle.instructions_values.specs.Parts.{First, origin_set}

pub origin-value : (next : ℕ) {s : List ℕ} {v : Operand} → First s 1 v → set_origin (seen s) next ≡ and_then (truth_of_value (held s v)) (λ b. origin_set next b s)
unfolding set_origin
origin-value next {s} f =
    rw (← origin-seen s)
    (f.goes (λ a. and_then (truth_of_value a) (λ b. gives (sets_origin (bit b) ∷ replaces 1 (word (seen s).origin) ∷ jumps next ∷ []))))
