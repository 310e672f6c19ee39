-- A load does what `Did` says: it is one store of a value to a global.
use Prim.Native.Nat.{ℕ, zero, suc, ◌≤◌, ◌<◌}
use mathlib.Core.Path.{◌≡◌, refl, sym, ◌∙◌, ap, subst}
use mathlib.Core.Bool.{Bool, true, false, cond, not, ◌&&◌, ◌||◌}
use mathlib.Core.Logic.{◌≢◌, ◌↔◌, ⊎_elim}
use mathlib.Core.List.{List, [], ◌∷◌}
use native.Mathlib.Omega.{arith}
use lib.Dec.{leb, ltb, eqb}
use lib.ListN.{length}
use borrow.Author.Tests.{leb-true, ltb-false, eqb-true, eqb-false, not-true, not-false, eq-eqb, ne_eqb, lt-ltb}
use Rattle.descriptor.specs.declared.Target.{Target}
use Rattle.descriptor.specs.declared.Target.TheVariants.{Global}
use Rattle.descriptor.specs.Kinds.{segment, is_scalar}
use Rattle.descriptor.proofs.Truth.{neither}
use Rattle.segment.specs.Blocks.{product, need}
use Rattle.segment.specs.Cells.{Cell, undefined, value}
use Rattle.storage.specs.Heap.{count}
use Rattle.segment.specs.View.{view}
use Rattle.segment.specs.Lent.{Words}
use Rattle.storage_theorems.proofs.Counts.{hit-cases, hit_same}
use Rattle.acceptance_storage.specs.Room.{long_enough}
use Rattle.acceptance_storage.proofs.Tests.{by-eq, both}
use Rattle.acceptance.specs.Refusal.{refusal}
use Rattle.acceptance.specs.Structure.{Accepted}
use Rattle.acceptance.proofs.Structure.{line, structure}
use Rattle.manual.specs.Values.{any}
use Rattle.manual.specs.Effects.{Source, Effect, stores, meant, look, put}
use Rattle.manual.proofs.Cellwise.{look-other}
use Rattle.effects.specs.Sound.{Sound}
use Rattle.effects.specs.Fits.{Available, Fits}
use Rattle.effects.specs.Perform.{none_for, store, perform, source_need}
use Rattle.effects.specs.Perform as performing
use Rattle.effects_theorems.specs.Theorems.{Performed}
use Rattle.effects_theorems.proofs.Variables.{in-view}
use Rattle.effects_theorems.proofs.Theorems.{effects-theorems}
use Rattle.plan_theorems.specs.Bounded.{SmallSource}
use Rattle.plan_theorems.proofs.Bounded.{bounded-theorems}
use Rattle.legality.proofs.Cells.{globals-length}
use Rattle.legality.proofs.Accepted.{legal-theorems}
use Rattle.legality.proofs.Effects.{put-kept}
use Rattle.step_theorems.proofs.Again.{sound-of, accepted-again}
use Rattle.operations.specs.Answers as operations
use Rattle.operations.specs.Load.{is_global, is_value, source_of, lacks_room, load_refusal, loaded}
use Rattle.audit.specs.Calls.{Procedures, answer_of, load, test, first_failed, tests, has_room}
use Rattle.audit.specs.Did.{Loaded, Did, is_refused, is_loaded}
use Rattle.audit.specs.Lists.{LoadInVain}
use Rattle.audit.proofs.Full.{vain-full}
use Rattle.audit.proofs.Tests.{segment-told, further-told, segment-below}
use Rattle.audit.proofs.Accepts.{passes_of}
use Rattle.audit.proofs.Look.{global-within}

-- ---- what may be loaded

none_of : (test : ℕ → Bool) (l : List ℕ) → any test l ≡ false → (w : ℕ) → 0 < count w l → test w ≡ false
none_of test [] h w k = absurd (omega arith)
none_of test (x ∷ l) h w k =
    let n = neither (test x) (any test l) h in
    ⊎_elim (λ e. ap test e.0 ∙ n.0) (λ e. none_of test l n.1 w (omega (arith, e, k))) (hit-cases w x)

record Value (lengths ravel : List ℕ) : Type 0 where
  rank : length lengths ≤ 15
  short : (w : ℕ) → 0 < count w lengths → w ≤ 65535
  scalars : (w : ℕ) → 0 < count w ravel → is_scalar w ≡ true
  size : product lengths ≡ length ravel

value_of : (lengths ravel : List ℕ) → is_value lengths ravel ≡ true → Value lengths ravel
unfolding is_value
value_of lengths ravel h =
    let c = both _ (eqb (product lengths) (length ravel)) h in
    let b = both _ (not (any (λ w. not (is_scalar w)) ravel)) c.0 in
    let a = both (leb (length lengths) 15) (not (any (λ l. ltb 65535 l) lengths)) b.0 in
    record {
      rank = leb-true _ _ a.0;
      short = λ w k. ltb-false 65535 w (none_of (λ l. ltb 65535 l) lengths (not-true _ a.1) w k);
      scalars = λ w k. not-false (is_scalar w) (none_of (λ v. not (is_scalar v)) ravel (not-true _ b.1) w k);
      size = eqb-true _ _ c.1;
    }

-- The SIZE that is asked for: a scalar needs no storage.
abbrev asked : List ℕ → List ℕ → ℕ
asked lengths ravel = cond (ltb 0 (length lengths)) (need lengths ravel) 0

-- What a source is for a load of `lengths` and `ravel`.
record Gives (s lengths ravel : List ℕ) (source : Source) : Type 0 where
  available : Available s source
  seen : meant source (view s) ≡ value lengths ravel
  small : Words ravel → SmallSource source
  asks : source_need source ≡ asked lengths ravel

gives : (s lengths ravel : List ℕ) → Value lengths ravel → Gives s lengths ravel (source_of lengths ravel)
gives s [] [] h = absurd (omega (arith, h.size))
gives s [] (w ∷ []) h = record { available = h.scalars w (omega (arith, hit_same w)); seen = refl; small = λ k. k 0; asks = refl }
gives s [] (w ∷ x ∷ ravel) h = absurd (omega (arith, h.size))
gives s (l ∷ lengths) ravel h =
    rw (ne_eqb (length (l ∷ lengths)) 0 (omega arith))
    (record {
      available = record { rank = (omega arith, h.rank); size = h.size; lengths = λ w k. omega (arith, h.short w k); scalars = h.scalars };
      seen = refl;
      small = λ k. k;
      asks = rw (lt-ltb 0 (length (l ∷ lengths)) (omega arith));
    })

-- ---- storage full

full-asked : (b : Bool) (n : ℕ) → n ≢ 0 → (s : List ℕ) → cond (eqb (cond b n 0) 0) false (none_for s (cond b n 0)) ≡ (b && none_for s n)
full-asked true n some s = rw (ne_eqb n 0 some)
full-asked false n some s = refl

-- a request for so much is in vain where a load has no room
vain-asked : (n w : ℕ) → w ≢ 0 → (s : List ℕ) → (ltb 0 (cond (ltb 0 n) w 0) && not (long_enough s (cond (ltb 0 n) w 0))) ≡ not (eqb n 0 || long_enough s w)
vain-asked zero w some s = refl
vain-asked (suc n) w some s = rw (lt-ltb 0 (suc n) (omega arith), ne_eqb (suc n) 0 (omega arith), lt-ltb 0 w (omega arith))

-- ---- the table

-- tests 21, 23 and 24, with either way of test 24
same-ways : (global good room full : Bool) → (global ≡ true → good ≡ true → full ≡ not room)
    → ◌≡◌ {A = ℕ} (cond global (cond good (cond room 0 24) 23) 21) (cond global (cond good (cond full 24 0) 23) 21)
same-ways true true true full h = rw (h refl refl)
same-ways true true false full h = rw (h refl refl)
same-ways true false room full h = refl
same-ways false good room full h = refl

full-ways : (global good room : Bool) → ◌≡◌ {A = ℕ} (cond global (cond good (cond room 0 24) 23) 21) 24 → (global ≡ true) × (good ≡ true) × (room ≡ false)
full-ways true true true e = absurd (omega (arith, e))
full-ways true true false e = (refl, refl, refl)
full-ways true false room e = absurd (omega (arith, e))
full-ways false good room e = absurd (omega (arith, e))

-- ---- the call

room-left : (b : Bool) → ◌≡◌ {A = ℕ} (cond b 24 0) 0 → b ≡ false
room-left true e = absurd (omega (arith, e))
room-left false e = refl

module _ (s : List ℕ) (p : Procedures) (g : ℕ) (lengths ravel : List ℕ) where
  abbrev number : ℕ
  number = load_refusal s p.regular p.alternate g lengths ravel

  -- of tests 10–18
  abbrev judgement : ℕ
  judgement = refusal s p.regular p.alternate

  abbrev target : Target
  target = Global (segment g)

  abbrev effect : Effect
  effect = stores target (source_of lengths ravel)

  load-refused : number ≢ 0 → loaded s p.regular p.alternate g lengths ravel ≡ s
  unfolding loaded
  load-refused h = simp (ne_eqb number 0 h)

  load-done : number ≡ 0 → loaded s p.regular p.alternate g lengths ravel ≡ perform s effect
  unfolding loaded store
  load-done h = simp (eq-eqb number 0 h)

  -- what is left of the table where the segment is accepted, and the address and the value are good
  number-left : judgement ≡ 0 → is_global s g ≡ true → is_value lengths ravel ≡ true → number ≡ cond (lacks_room s lengths ravel) 24 0
  unfolding load_refusal
  number-left h k v = simp (eq-eqb judgement 0 h, k, v)

  -- The first tests pass.
  record Loadable : Type 0 where
    start : Accepted s p.regular p.alternate
    global : is_global s g ≡ true
    good : is_value lengths ravel ≡ true

  loadable : number ≡ 0 → Loadable
  unfolding load_refusal
  loadable h =
      by-eq judgement 0
      (λ e.
      let a = line (is_global s g) _ 20 (simp (eq-eqb judgement 0 e) at h) in
      let b = line (is_value lengths ravel) _ 22 a.1 in
      record { start = structure.sound s p.regular p.alternate e; global = a.0; good = b.0 })
      (λ e. absurd (e (simp (ne_eqb judgement 0 e) at h)))

  module _ (h : Loadable) where
    number_is : number ≡ cond (lacks_room s lengths ravel) 24 0
    number_is = number-left (structure.complete s p.regular p.alternate h.start) h.global h.good

    source : Gives s lengths ravel (source_of lengths ravel)
    source = gives s lengths ravel (value_of lengths ravel h.good)

    fits : Fits s effect
    fits = let b = global-within s g h.global in ((in-view s target).1 (b.0, omega (arith, b, globals-length s)), source.available)

    same_full : performing.is_full s effect ≡ lacks_room s lengths ravel
    unfolding lacks_room
    same_full = rw source.asks (full-asked (ltb 0 (length lengths)) (need lengths ravel) (omega arith) s)

    -- test 24, by the words and by the free blocks
    judged : lacks_room s lengths ravel ≡ not (has_room s lengths ravel)
    judged =
        sym same_full ∙ vain-full s p.regular p.alternate h.start (effect ∷ []) fits
        ∙ rw source.asks (vain-asked (length lengths) (need lengths ravel) (omega arith) s)

  -- ---- the table

  abbrev first : ℕ
  first = first_failed (tests s (load p g lengths ravel))

  first-is : first
      ≡ cond (eqb judgement 0) (cond (is_global s g) (cond (is_value lengths ravel) (cond (has_room s lengths ravel) 0 24) 23) 21) judgement
  first-is = further-told s p (test 21 (is_global s g) ∷ test 23 (is_value lengths ravel) ∷ test 24 (has_room s lengths ravel) ∷ [])

  first-number : first ≡ number
  unfolding load_refusal
  first-number =
      first-is ∙ by-eq judgement 0
      (λ h.
      let l : is_global s g ≡ true → is_value lengths ravel ≡ true → lacks_room s lengths ravel ≡ not (has_room s lengths ravel)
      = λ k v. judged (record { start = structure.sound s p.regular p.alternate h; global = k; good = v }) in
      simp (eq-eqb judgement 0 h) (same-ways (is_global s g) (is_value lengths ravel) (has_room s lengths ravel) (lacks_room s lengths ravel) l))
      (λ d. simp (ne_eqb judgement 0 d))

  -- 24 exactly where the load comes to a request, and no free block is long enough
  pub load_full : (first ≡ 24) ↔ LoadInVain s p g lengths ravel
  load_full = (λ e. by-eq judgement 0 (λ h. in-vain h (full-ways _ _ (has_room s lengths ravel) (sym (left h) ∙ e))) (λ d. absurd (early d e)), full)
    where
      early : judgement ≢ 0 → first ≡ 24 → ⊥
      early d e = let q : first ≡ judgement = first-is ∙ simp (ne_eqb judgement 0 d) in omega (arith, segment-below s p, e, q)

      left : judgement ≡ 0 → first ≡ cond (is_global s g) (cond (is_value lengths ravel) (cond (has_room s lengths ravel) 0 24) 23) 21
      left h = first-is ∙ simp (eq-eqb judgement 0 h)

      in-vain : judgement ≡ 0 → (is_global s g ≡ true) × (is_value lengths ravel ≡ true) × (has_room s lengths ravel ≡ false) → LoadInVain s p g lengths ravel
      in-vain h k =
          let n = neither (eqb (length lengths) 0) (long_enough s (need lengths ravel)) k.2 in
          record { accepted = segment-told s p ∙ h; global = k.0; value = k.1; asks = eqb-false (length lengths) 0 n.0; none = n.1 }

      full : LoadInVain s p g lengths ravel → first ≡ 24
      full k = left (sym (segment-told s p) ∙ k.accepted) ∙ rw (k.global, k.value, ne_eqb (length lengths) 0 k.asks, k.none)

  module _ (e : number ≡ 0) where
    able : Loadable
    able = loadable e

    sound : Sound s
    sound = sound-of able.start

    has-room-left : performing.is_full s effect ≡ false
    has-room-left = same_full able ∙ room-left (lacks_room s lengths ravel) (sym (number_is able) ∙ e)

    performed : Performed s effect
    performed = effects-theorems.performed s sound effect (fits able) has-room-left

    load_view : view (perform s effect) ≡ put target (value lengths ravel) (view s)
    load_view = performed.seen ∙ ap (λ (c : Cell). put target c (view s)) (source able).seen

    load-accepted : Accepted (perform s effect) p.regular p.alternate
    load-accepted =
        let kept = effects-theorems.kept s sound effect (fits able) has-room-left in
        accepted-again s p.regular p.alternate able.start (perform s effect) kept.long performed.sound
        (rw load_view (put-kept (legal-theorems.split s p.regular p.alternate able.start).legal target (value lengths ravel) tt))
        (omega (arith, effects-theorems.flags_kept s sound effect (fits able) has-room-left (λ k. k), able.start.head.flag_bits))
        (omega (arith, kept.rest 3 (omega arith) (omega arith), able.start.head.trap_bits))
        (λ i l u. kept.rest i (omega arith) u)

    done-words : Words s → Words ravel → Words (loaded s p.regular p.alternate g lengths ravel)
    done-words h k =
        subst Words (sym (load-done e)) (bounded-theorems.effect s sound h effect (fits able) has-room-left ((source able).small k))

    load-loaded : Loaded s p g lengths ravel (perform s effect)
    load-loaded =
        let kept = effects-theorems.kept s sound effect (fits able) has-room-left in
        record {
          seen = load_view;
          others = λ u apart. ap (look undefined u) load_view ∙ look-other undefined (value lengths ravel) target u (view s) apart;
          length = kept.long;
          sbase = kept.base;
          blockptr = kept.rest 4 (omega arith) (omega arith);
          flags = effects-theorems.flags_kept s sound effect (fits able) has-room-left (λ k. k);
          trap_word = kept.rest 3 (omega arith) (omega arith);
          accepted = passes_of (perform s effect) p load-accepted;
        }

  pub load-did : Did s (load p g lengths ravel) (answer_of (operations.done_or_refused number)) (loaded s p.regular p.alternate g lengths ravel)
  load-did =
      by-eq number 0
      (λ e. rw (eq-eqb number 0 e, load-done e) (is_loaded (first-number ∙ e) (load-loaded e)))
      (λ d. rw (ne_eqb number 0 d, load-refused d) (is_refused d first-number))

  pub load-words : Words s → Words ravel → Words (loaded s p.regular p.alternate g lengths ravel)
  load-words h k = by-eq number 0 (λ e. done-words e h k) (λ d. subst Words (sym (load-refused d)) h)

  -- whatever the words are
  pub load-accepts : number ≡ 0 → refusal (loaded s p.regular p.alternate g lengths ravel) p.regular p.alternate ≡ 0
  load-accepts e =
      ap (λ (t : List ℕ). refusal t p.regular p.alternate) (load-done e)
      ∙ sym (segment-told (perform s effect) p) ∙ (load-loaded e).accepted
