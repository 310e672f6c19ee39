-- The table of load: its answer, and the segment after it, where the tests up to one are known.
use Prim.Native.Nat.{ℕ}
use mathlib.Core.Path.{◌≡◌, refl, sym, ◌∙◌}
use mathlib.Core.Bool.{Bool, true, false, cond, not, ◌||◌}
use mathlib.Core.List.{List, [], ◌∷◌}
use native.Mathlib.Omega.{arith}
use lib.ListN.{length}
use lib.Dec.{eqb}
use borrow.Author.Tests.{eqb-true, lt-ltb, eq-eqb, ne_eqb}
use Rattle.descriptor.specs.declared.address.SegmentAddress.{SegmentAddress}
use Rattle.descriptor.specs.declared.Target.TheVariants.{Global}
use Rattle.descriptor.specs.Kinds.{is_scalar}
use Rattle.segment.specs.Blocks.{product}
use Rattle.storage.specs.Arrays.{share}
use Rattle.manual.specs.Values.{any, first}
use Rattle.manual.specs.Effects.{Effect, made, stores}
use Rattle.effects.specs.Perform.{store_at, store, is_full}
use Rattle.acceptance_storage.proofs.Tests.{both, never}
use Rattle.acceptance.specs.Refusal.{refusal}
use Rattle.descriptor.proofs.Arrays.{scalar-array}
use Rattle.trap.specs.declared.Trap.{Trap}
use Rattle.effects_code.specs.Done.{answered, store_shared, full_or_done, attempt}
use Rattle.effects_code.proofs.Placing.{full-by-need}
use Rattle.std.proofs.Common.{Result, Ok, Err}
use Rattle.operations.specs.declared.Refusal.{Refusal}
use Rattle.operations.specs.declared.Refusal.TheVariants as R
use Rattle.operations.specs.Answers.{number_of, numbered, status_of}
use Rattle.operations.proofs.Answers.{nonzero, by-status}
use Rattle.audit.specs.Calls as call
use Rattle.audit.specs.Did.{Promised}
use Rattle.audit.proofs.Load.{load-did}
use Rattle.operations.specs.Load as meaning
use Rattle.operations.specs.Load.{is_global, is_value, source_of, load_refusal, loaded}

-- ---- rank 0

none_other : (scalar others : Bool) → not (not scalar || others) ≡ true → scalar ≡ true
none_other true others h = refl
none_other false others h = absurd (never h)

first-scalar : (ravel : List ℕ) → length ravel ≡ 1 → not (any (λ w. not (is_scalar w)) ravel) ≡ true → is_scalar (first ravel) ≡ true
first-scalar [] one h = absurd (omega arith)
first-scalar (w ∷ ws) one h = none_other (is_scalar w) (any (λ v. not (is_scalar v)) ws) h

pub one-scalar : (lengths ravel : List ℕ) → is_value lengths ravel ≡ true → length lengths ≡ 0 → (length ravel ≡ 1) × (is_scalar (first ravel) ≡ true)
unfolding is_value
one-scalar [] ravel value rank =
    let c = both (not (any (λ w. not (is_scalar w)) ravel)) (eqb (product []) (length ravel)) value in
    let one : length ravel ≡ 1 = sym (eqb-true 1 (length ravel) c.1) in
    (one, first-scalar ravel one c.0)
one-scalar (l ∷ lengths) ravel value rank = absurd (omega arith)

-- ---- the table

told-full : (b : Bool) (t : Trap) → Err t ≡ answered b → b ≡ true
told-full true t same = refl
told-full false t same = cc

told-done : (b : Bool) (u : Unit {0}) → Ok u ≡ answered b → b ≡ false
told-done true u same = cc
told-done false u same = refl

module _ (s regular alternate : List ℕ) (g : ℕ) (lengths ravel : List ℕ) where
  -- what load answers, and what it leaves
  abbrev pub Answers : Result (Unit {0}) Refusal → List ℕ → Type 0
  Answers answer after = (status_of (numbered answer) ≡ load_refusal s regular alternate g lengths ravel) × (after ≡ loaded s regular alternate g lengths ravel)

  refused : (refusal : Refusal) → load_refusal s regular alternate g lengths ravel ≡ number_of refusal → Answers (Err refusal) s
  unfolding loaded
  refused refusal e = (sym e, simp (e, ne_eqb (number_of refusal) 0 (nonzero refusal)))

  done : load_refusal s regular alternate g lengths ravel ≡ 0 → Answers (Ok tt) (store_at s g (source_of lengths ravel))
  unfolding loaded
  done e = (sym e, simp e)

  pub unaccepted : (by : Refusal) → number_of by ≡ refusal s regular alternate → Answers (Err by) s
  unfolding load_refusal
  unaccepted by same = refused by (simp (← same, ne_eqb (number_of by) 0 (nonzero by)))

  module _ (accepted : 0 ≡ refusal s regular alternate) where
    pub no-global : is_global s g ≡ false → Answers (Err R.Global) s
    unfolding load_refusal
    no-global none = refused R.Global (simp (← accepted, none))

    module _ (global : is_global s g ≡ true) where
      pub no_value : is_value lengths ravel ≡ false → Answers (Err R.Value) s
      unfolding load_refusal
      no_value none = refused R.Value (simp (← accepted, global, none))

      module _ (value : is_value lengths ravel ≡ true) where
        judged : (b : Bool) → meaning.lacks_room s lengths ravel ≡ b → load_refusal s regular alternate g lengths ravel ≡ cond b 24 0
        unfolding load_refusal
        judged b full = simp (← accepted, global, value, full)

        module _ (a : SegmentAddress) (at : a.0 ≡ g) (after : List ℕ) where
          pub scalar-stored : length lengths ≡ 0 → after ≡ store_shared s (Global a) (first ravel) → Answers (Ok tt) after
          unfolding store_shared store_at share meaning.lacks_room
          scalar-stored rank left =
              let same = done (judged false (simp rank)) in
              (same.0, left ∙ simp (scalar-array (first ravel) (one-scalar lengths ravel value rank).1, at) (simp (eq-eqb (length lengths) 0 rank) at same.1))

          abbrev pub effect : Effect
          effect = stores (Global a) (made lengths ravel)

          module _ (rank : length lengths ≡ 0 → ⊥) (left : after ≡ attempt s effect) where
            by-need : meaning.lacks_room s lengths ravel ≡ is_full s effect
            unfolding meaning.lacks_room
            by-need = simp (lt-ltb 0 (length lengths) (omega (arith, rank))) (sym (full-by-need s lengths ravel effect refl))

            pub full : (t : Trap) → Err t ≡ full_or_done s effect → Answers (Err R.Full) after
            unfolding full_or_done attempt
            full t told =
                let e = told-full (is_full s effect) t told in
                let same = refused R.Full (judged true (by-need ∙ e)) in
                (same.0, left ∙ rw e same.1)

            pub array-stored : (u : Unit {0}) → Ok u ≡ full_or_done s effect → Answers (Ok tt) after
            unfolding full_or_done attempt store
            array-stored u told =
                let e = told-done (is_full s effect) u told in
                let same = done (judged false (by-need ∙ e)) in
                (same.0, left ∙ rw (e, at) (simp (ne_eqb (length lengths) 0 rank) at same.1))

-- ---- the promise

pub promised : (s regular alternate : List ℕ) (g : ℕ) (lengths ravel : List ℕ) (answer : Result (Unit {0}) Refusal) (after : List ℕ)
    → Answers s regular alternate g lengths ravel answer after
    → (status_of (numbered answer) ≡ load_refusal s regular alternate g lengths ravel)
    × ((after ≡ loaded s regular alternate g lengths ravel) × Promised s (call.load (call.procedures regular alternate) g lengths ravel) (call.answer_of (numbered answer)) after)
unfolding Promised
promised s regular alternate g lengths ravel answer after e =
    (e.0, (e.1, λ words lent. rw (by-status answer e.0, e.1) (load-did s (call.procedures regular alternate) g lengths ravel)))
