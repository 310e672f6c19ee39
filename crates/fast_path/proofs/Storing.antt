-- A scalar assigned to a variable that holds a scalar or nothing, and kept on the stack or not.
use Rattle.std.specs.Prelude.{Ok}
use Prim.Native.Nat.{ℕ, ◌+◌, ◌-◌, ◌≤◌}
use native.Mathlib.Omega.{arith}
use mathlib.Core.Path.{◌≡◌, sym, ap, ◌∙◌}
use mathlib.Core.Bool.{Bool, true, false}
use mathlib.Core.List.{List, [], ◌∷◌}
use lib.ListN.{get_or, set}
use lib.Seq.{get_or-set_other}
use borrow.Author.Tests.{le-ltb}
use Rattle.descriptor.specs.declared.Target.{Target}
use Rattle.descriptor.specs.Fields.{is_array}
use Rattle.descriptor.specs.Kinds.{is_scalar}
use Rattle.segment.specs.State.{sbase, ltop, set_ltop}
use Rattle.storage.proofs.Counts.{share_other, drop-other}
use Rattle.manual.specs.OrTrap.{OrTrap, gives}
use Rattle.manual.specs.Effects.{Effect, operand, stores, discards, jumps, Plan}
use Rattle.manual.specs.Seen.{Variable}
use Rattle.manual.specs.Memory as plan
use Rattle.manual.specs.Instructions.{memory_plan}
use Rattle.effects.specs.Sources.{address_of, held_at, operand_at}
use Rattle.effects.specs.Seen.{read, temporaries, seen}
use Rattle.effects.specs.Perform.{discard, store_at, store, perform}
use Rattle.operands.proofs.Seen.{count-seen}
use Rattle.effects.specs.declared.Outcome.TheVariants.{Finished}
use Rattle.effects.specs.Carried.{did, carry}
use Rattle.fast_path.specs.Naming.{Stands, is_plain, assignment}
use Rattle.fast_path.proofs.Words.{scalar-no-array, plain-no-array, plain-held, scalar-operand, discarded, copied-stays}

module _ (s : List ℕ) (i : ℕ) {w old : ℕ} (top : w ≡ operand_at s 0) (scalar : is_scalar w ≡ true) (there : old ≡ get_or s i 0) (plain : is_plain old ≡ true) where
  abbrev stored : List ℕ
  stored = set s i w

  scalar-top : is_scalar (operand_at s 0) ≡ true
  scalar-top = ap is_scalar (sym top) ∙ scalar

  store-plain : store_at s i (operand 0) ≡ stored
  unfolding store_at
  store-plain =
      rw (share_other s (operand_at s 0) (scalar-no-array (operand_at s 0) scalar-top), ← top, ← there)
      (drop-other stored old (plain-no-array old plain))

  -- Word 0 is not the cell, so the operand on top is the same as before.
  top-stays : (i ≡ 0 → ⊥) → operand_at stored 0 ≡ operand_at s 0
  top-stays apart =
      let same : get_or stored 0 0 ≡ get_or s 0 0 = get_or-set_other s i 0 w 0 (λ e. apart (sym e)) in
      rw (same, top) (copied-stays s i (sbase s + ltop s - 0))

  abbrev taken : List ℕ
  taken = set_ltop stored (ltop stored - 1)

  discard-stored : (i ≡ 0 → ⊥) → discard stored 1 ≡ taken
  discard-stored apart = discarded stored (ap is_array (top-stays apart) ∙ scalar-no-array (operand_at s 0) scalar-top)

  module _ (next : ℕ) {resolved : OrTrap Variable} {t : Target} (keep : Bool) (some : 1 ≤ temporaries s) (stands : Stands s resolved t i) where
    abbrev at : i ≡ address_of s t
    at = stands.place

    held : is_plain (held_at s t) ≡ true
    held = ap is_plain (sym (there ∙ ap (λ (j : ℕ). get_or s j 0) at)) ∙ plain

    assigned : (effects : Variable → List Effect) → plan.assigning (seen s) resolved effects ≡ gives (effects (record { place = t; held = read s (held_at s t) }))
    assigned effects = rw (stands.resolves, plain-held s t held, count-seen s, le-ltb (temporaries s) 1 some, scalar-operand s 0 (omega arith) scalar-top)

    abbrev planned : Plan
    planned = memory_plan (seen s) next (assignment keep) resolved

    done-so : stored ≡ store s t (operand 0)
    unfolding store
    done-so = sym (ap (λ (j : ℕ). store_at s j (operand 0)) (sym at) ∙ store-plain)

    -- ASSIGN
    pub scalar-kept : {x u : List ℕ} → keep ≡ true → x ≡ stored → u ≡ perform x (jumps next) → did (Ok Finished) u ≡ carry s planned
    unfolding plan.assign
    scalar-kept keeps put jumped =
        ap (did (Ok Finished)) (jumped ∙ ap (λ (v : List ℕ). perform v (jumps next)) (put ∙ done-so))
        ∙ sym (rw keeps (ap (carry s) (assigned (λ v. stores v.place (operand 0) ∷ jumps next ∷ []))))

    -- ASSIGN_NORESULT
    pub scalar-stored : {x y u : List ℕ} → keep ≡ false → (i ≡ 0 → ⊥) → x ≡ stored → y ≡ set_ltop x (ltop x - 1) → u ≡ perform y (jumps next) → did (Ok Finished) u ≡ carry s planned
    unfolding plan.assign_no_result
    scalar-stored keeps apart put went jumped =
        ap (did (Ok Finished)) (jumped ∙ ap (λ (v : List ℕ). perform v (jumps next)) (went ∙ ap (λ (v : List ℕ). set_ltop v (ltop v - 1)) put ∙ sym (discard-stored apart) ∙ ap (λ (v : List ℕ). discard v 1) done-so))
        ∙ sym (rw keeps (ap (carry s) (assigned (λ v. stores v.place (operand 0) ∷ discards 1 ∷ jumps next ∷ []))))
