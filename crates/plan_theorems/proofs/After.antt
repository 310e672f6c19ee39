-- What the first effect of a plan leaves for the second.
use Prim.Native.Nat.{ℕ, ◌+◌, ◌*◌, ◌/◌, ◌%◌, ◌^◌, ◌≤◌}
use mathlib.Core.Path.{◌≡◌, refl, ◌∙◌, ap}
use mathlib.Core.Bool.{Bool, true, false}
use mathlib.Core.List.{List}
use mathlib.Core.Logic.{◌≢◌}
use native.Mathlib.Omega.{arith}
use lib.ListN.{get_or, set, length, length-set, length-drop}
use lib.Seq.{get_or-set_other}
use Rattle.descriptor.specs.declared.Target.{Target}
use Rattle.descriptor.specs.declared.Target.TheVariants.{Local, Global}
use Rattle.segment.specs.State.{sbase, ltop, lbase, flags, set_iorg}
use Rattle.segment.specs.Stack.{code_word_at, set_pctr}
use Rattle.segment.specs.Cells.{Cell}
use Rattle.segment.specs.Machine.{Machine}
use Rattle.segment.specs.View.{words, view}
use Rattle.manual.specs.Effects.{operand, discards, stores, enters, leaves, jumps, sets_origin, current_cells, put, meant}
use Rattle.manual.specs.Seen.{no_older}
use Rattle.effects.specs.Perform.{perform}
use Rattle.effects.specs.Seen.{temporaries}
use Rattle.effects.specs.Sound.{Sound}
use Rattle.effects.specs.Fits.{CanReplace, Fits}
use Rattle.effects_theorems.proofs.Sound.{bounds}
use Rattle.effects_theorems.proofs.Seen.{long-temporaries, long-current}
use Rattle.effects_theorems.proofs.Theorems.{effects-theorems}
use Rattle.plan_theorems.proofs.Fitting.{can-leave}

-- a write that leaves SBASE, LTOP and LBASE
module _ (s : List ℕ) (i w : ℕ) (h : 2 ≤ i) where
  state-kept : (sbase (set s i w) ≡ sbase s) × (ltop (set s i w) ≡ ltop s) × (lbase (set s i w) ≡ lbase s) × (length (set s i w) ≡ length s)
  state-kept =
      let n0 : 0 ≢ i = omega arith in
      let n1 : 1 ≢ i = omega arith in
      let e0 : get_or (set s i w) 0 0 ≡ get_or s 0 0 = rw get_or-set_other in
      let e1 : get_or (set s i w) 1 0 ≡ get_or s 1 0 = rw get_or-set_other in
      (ap (λ (v : ℕ). v / 2 ^ 16) e0, ap (λ (v : ℕ). v % 2 ^ 16) e0, ap (λ (v : ℕ). v / 2 ^ 16) e1, length-set s i w)

pub enters-after : (s : List ℕ) → Sound s → (next n f : ℕ) → Fits s (enters n f) → Fits (perform s (jumps next)) (enters n f)
unfolding set_pctr
enters-after s g next n f h =
    omega (
      arith,
      state-kept s (sbase s + lbase s + 1) (code_word_at s (lbase s) / 2 ^ 16 * 2 ^ 16 + next % 2 ^ 16) (omega (arith, (bounds g).low, (bounds g).mid)),
      h,
    )

pub replace-after : (s : List ℕ) (v n : ℕ) → CanReplace s n → CanReplace (perform s (sets_origin v)) n
unfolding set_iorg
replace-after s v n h =
    let k = state-kept s 2 (flags s / 2 * 2 + v) (omega arith) in
    record { taken = omega (arith, k, h.taken); room = omega (arith, k, h.room) }

put-temporaries : (t : Target) (c : Cell) (m : Machine Cell) → length (put t c m).temporaries ≡ length m.temporaries
put-temporaries (Global q) c m = refl
put-temporaries (Local a) c m = refl

pub discards-after : (s : List ℕ) → Sound s → (t : Target) → Fits s (stores t (operand 0)) → Fits (perform s (stores t (operand 0))) (discards 1)
discards-after s g t h =
    let p = effects-theorems.performed s g (stores t (operand 0)) h refl in
    omega (
      arith,
      h.1,
      long-temporaries s g,
      put-temporaries t (meant (operand 0) (view s)) (view s),
      ap (λ (m : Machine Cell). length m.temporaries) p.seen,
      long-temporaries (perform s (stores t (operand 0))) p.sound,
    )

pub leaves_after : (s : List ℕ) → Sound s → (n : ℕ) → no_older (view s).frames ≡ false → n ≤ length (current_cells (words s).frames) → temporaries s ≡ 1
    → (result : Bool) → (result ≡ true → 1 ≤ n) → Fits (perform s (discards 1)) (leaves n result)
leaves_after s g n inner cells e result some =
    let p = effects-theorems.performed s g (discards 1) (omega (arith, e)) refl in
    let long = long-temporaries (perform s (discards 1)) p.sound in
    can-leave (perform s (discards 1)) p.sound n (ap (λ (m : Machine Cell). no_older m.frames) p.seen ∙ inner)
    (omega (
      arith,
      cells,
      long-current s g,
      ap (λ (m : Machine Cell). length (current_cells m.frames)) p.seen,
      long-current (perform s (discards 1)) p.sound,
    ))
    (omega (
      arith,
      e,
      long,
      ap (λ (m : Machine Cell). length m.temporaries) p.seen,
      length-drop 1 (view s).temporaries,
      long-temporaries s g,
    ))
    result some
