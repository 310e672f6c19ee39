-- ASSIGN and ASSIGN_NORESULT by the ways of the code.
use Rattle.std.specs.Prelude.{Option, Some, None, Ok, Err}
use Rattle.trap.specs.Trap.{trap_of}
use Prim.Native.Nat.{ℕ, ◌≤◌, ◌<◌}
use mathlib.Core.Path.{◌≡◌, ap, ◌∙◌}
use mathlib.Core.List.{List, [], ◌∷◌}
use borrow.Author.Tests.{lt-ltb, le-ltb}
use Rattle.descriptor.specs.declared.Target.{Target}
use Rattle.segment.specs.Cells.{Cell}
use Rattle.manual.specs.OrTrap.{gives, and_then}
use Rattle.manual.specs.Effects.{operand, Effect, stores, discards, jumps, Plan}
use Rattle.manual.specs.Seen.{Variable, at}
use Rattle.manual.specs.Memory as plan
use Rattle.effects.specs.Sources.{operand_at}
use Rattle.effects.specs.Seen.{temporaries, seen}
use Rattle.effects.specs.Perform.{discard, perform}
use Rattle.operands.specs.declared.reading.Value.{Value}
use Rattle.operands.specs.Operands.{operand_of, value_seen}
use Rattle.operands.proofs.Seen.{count-seen, operand-seen}
use Rattle.operands.proofs.ValuesSeen.{value-seen}
use Rattle.effects.specs.declared.Outcome.TheVariants.{Finished}
use Rattle.effects_code.specs.Done.{store_shared}
use Rattle.effects.specs.Carried.{did, carry}
use Rattle.effects_code.proofs.Carrying.{store-operand}

module _ (s : List ℕ) where
  -- What is assigned: an operand that is there and is a value.
  module _ (v : Variable) (effects : Variable → List Effect) where
    abbrev assigning : Plan
    assigning = plan.assigning (seen s) (gives v) effects

    missing : temporaries s < 1 → did (Err (trap_of 3 4)) s ≡ carry s assigning
    missing few = rw (count-seen s, lt-ltb (temporaries s) 1 few)

    module _ (enough : 1 ≤ temporaries s) where
      judged : (o : Option Value) → operand_of s (operand_at s 0) ≡ o → and_then (value_seen s o) (λ a. gives (effects v)) ≡ assigning
      judged o e = rw (count-seen s, le-ltb (temporaries s) 1 enough, operand-seen s 0 enough, value-seen s (operand_at s 0), e)

      other : operand_of s (operand_at s 0) ≡ None → did (Err (trap_of 3 5)) s ≡ carry s assigning
      other e = ap (carry s) (judged None e)

      assigned : (a : Value) → operand_of s (operand_at s 0) ≡ Some a → carry s (gives (effects v)) ≡ carry s assigning
      assigned a e = ap (carry s) (judged (Some a) e)

  module _ (next : ℕ) (t : Target) (c : Cell) where
    abbrev storing : Variable → List Effect
    storing v = stores v.place (operand 0) ∷ jumps next ∷ []

    abbrev moving : Variable → List Effect
    moving v = stores v.place (operand 0) ∷ discards 1 ∷ jumps next ∷ []

    abbrev assign : Plan
    assign = plan.assign (seen s) next (gives (at t c))

    abbrev move : Plan
    move = plan.assign_no_result (seen s) next (gives (at t c))

    pub assign-missing : temporaries s < 1 → did (Err (trap_of 3 4)) s ≡ carry s assign
    unfolding plan.assign
    assign-missing few = missing (at t c) storing few

    pub move-missing : temporaries s < 1 → did (Err (trap_of 3 4)) s ≡ carry s move
    unfolding plan.assign_no_result
    move-missing few = missing (at t c) moving few

    module _ (enough : 1 ≤ temporaries s) where
      pub assign_other : operand_of s (operand_at s 0) ≡ None → did (Err (trap_of 3 5)) s ≡ carry s assign
      unfolding plan.assign
      assign_other e = other (at t c) storing enough e

      pub move-other : operand_of s (operand_at s 0) ≡ None → did (Err (trap_of 3 5)) s ≡ carry s move
      unfolding plan.assign_no_result
      move-other e = other (at t c) moving enough e

      module _ (a : Value) (o : Option Value) (is : o ≡ Some a) (there : operand_of s (operand_at s 0) ≡ o) where
        pub value-assigned : did (Ok Finished) (perform (store_shared s t (operand_at s 0)) (jumps next)) ≡ carry s assign
        unfolding plan.assign
        value-assigned = rw (store-operand s t 0) (assigned (at t c) storing enough a (there ∙ is))

        pub value-moved : did (Ok Finished) (perform (discard (store_shared s t (operand_at s 0)) 1) (jumps next)) ≡ carry s move
        unfolding plan.assign_no_result
        value-moved = rw (store-operand s t 0) (assigned (at t c) moving enough a (there ∙ is))
