-- Which variables stand after an effect: the same, but for those of a frame that is entered or left.
use Prim.Native.Nat.{ℕ, ◌%◌, ◌^◌}
use mathlib.Core.Path.{◌≡◌, refl, sym}
use mathlib.Core.Bool.{false, true≢false}
use mathlib.Core.Logic.{◌↔◌, inr, ⊎_elim}
use mathlib.Core.List.{List, [], ◌∷◌}
use native.Mathlib.Omega.{arith}
use lib.ListN.{length}
use Rattle.descriptor.specs.declared.Target.{Target}
use Rattle.descriptor.specs.declared.Target.TheVariants.{Local, Global}
use Rattle.descriptor.proofs.Truth.{decide}
use Rattle.segment.specs.Cells.{Cell, undefined}
use Rattle.segment.specs.Machine.{Frame, Machine}
use Rattle.segment.specs.View.{view}
use Rattle.manual.specs.Effects as manual
use Rattle.manual.specs.Effects.{Effect, replaces, discards, swaps, stores, stores_element, enters, leaves, jumps, sets_origin, perform_on, InFrames, AddressableIn}
use Rattle.manual.proofs.Cellwise.{in-put}
use Rattle.effects.specs.Perform.{perform, performs, is_full, first_full}
use Rattle.effects.specs.Sound.{Sound}
use Rattle.effects.specs.Fits.{Addressable, Fits}
use Rattle.effects.specs.Requests.{AllFit, OneRequest}
use Rattle.effects_theorems.specs.Theorems.{StandsThrough, enters_frame, leaves_frame, NoneEnters, EntersFirst}
use Rattle.effects_theorems.proofs.Variables.{in-view}
use Rattle.effects_theorems.proofs.Effects.{perform-theorem}
use Rattle.effects_theorems.proofs.Lists.{AllServed, all-served}
use Rattle.effects_theorems.proofs.Others.{stands-first}

-- the variables are those of the frames and the globals
in-machine : (t : Target) (m n : Machine Cell) → ((a : ℕ) → InFrames a m.frames → InFrames a n.frames) → length m.globals ≡ length n.globals
    → AddressableIn t m → AddressableIn t n
in-machine (Global g) m n f e h = omega (arith, h, e)
in-machine (Local a) m n f e h = f a.0 h

same-machine : (t : Target) (m n : Machine Cell) → n.frames ≡ m.frames → length m.globals ≡ length n.globals → AddressableIn t m ↔ AddressableIn t n
same-machine t m n f e = (in-machine t m n (λ a k. rw f k) e, in-machine t n m (λ a k. rw f at k) (sym e))

in-older : (a : ℕ) (l : List (Frame Cell)) → InFrames a (manual.older l) → InFrames a l
in-older a [] h = h
in-older a (r ∷ l) h = inr h

in-jumped : (place a : ℕ) (l : List (Frame Cell)) → InFrames a l ↔ InFrames a (manual.jump_frames place l)
in-jumped place a [] = (λ h. h, λ h. h)
in-jumped place a (r ∷ l) = (λ h. h, λ h. h)

-- what stands before stands after, where no frame is left; what stands after stood before, where none is entered
module _ (t : Target) (m : Machine Cell) where
  abbrev Stays : Effect → Type 0
  Stays e = (leaves_frame e ≡ false → AddressableIn t m → AddressableIn t (perform_on e m)) × (enters_frame e ≡ false → AddressableIn t (perform_on e m) → AddressableIn t m)

  both : (e : Effect) → AddressableIn t m ↔ AddressableIn t (perform_on e m) → Stays e
  both e h = (λ p. h.0, λ p. h.1)

  stays : (e : Effect) → Stays e
  stays (replaces n source) = both (replaces n source) (same-machine t m (perform_on (replaces n source) m) refl refl)
  stays (discards n) = both (discards n) (same-machine t m (perform_on (discards n) m) refl refl)
  stays swaps = both swaps (same-machine t m (perform_on swaps m) refl refl)
  stays (stores u source) = both (stores u source) (in-put _ u t m)
  stays (stores_element u place w n) =
      let c = manual.with_element place w (manual.look undefined u m) in
      let k = in-put c u t m in
      let r = same-machine t (manual.put u c m) (manual.replace n c (manual.put u c m)) refl refl in
      both (stores_element u place w n) (λ h. r.0 (k.0 h), λ h. k.1 (r.1 h))
  stays (enters n f) = (λ p. in-machine t m (perform_on (enters n f) m) (λ a k. inr k) refl, λ p. absurd (true≢false p))
  stays (leaves n result) = (λ p. absurd (true≢false p), λ p. in-machine t (perform_on (leaves n result) m) m (λ a. in-older a m.frames) refl)
  stays (jumps place) = (
    λ p. in-machine t m (perform_on (jumps place) m) (λ a. (in-jumped (place % 2 ^ 16) a m.frames).0) refl,
    λ p. in-machine t (perform_on (jumps place) m) m (λ a. (in-jumped (place % 2 ^ 16) a m.frames).1) refl,
  )
  stays (sets_origin v) = both (sets_origin v) (same-machine t m (perform_on (sets_origin v) m) refl refl)

module _ (t : Target) (s : List ℕ) (g : Sound s) (e : Effect) (fit : Fits s e) (room : is_full s e ≡ false) where
  seen : view (perform s e) ≡ perform_on e (view s)
  seen = (perform-theorem s g e fit room).seen

  stays_on : leaves_frame e ≡ false → Addressable s t → Addressable (perform s e) t
  stays_on p h = (in-view (perform s e) t).1 (rw seen ((stays t (view s) e).0 p ((in-view s t).0 h)))

  stood-before : enters_frame e ≡ false → Addressable (perform s e) t → Addressable s t
  stood-before p h = (in-view s t).1 ((stays t (view s) e).1 p (rw seen at ((in-view (perform s e) t).0 h)))

-- one after the other
none-entered : (t : Target) (s : List ℕ) → Sound s → (es : List Effect) → AllServed s es → NoneEnters es → Addressable (performs s es) t → StandsThrough s es t
none-entered t s g [] h n k = k
none-entered t s g (e ∷ es) h n k =
    let r = none-entered t (perform s e) (perform-theorem s g e h.0 h.1).sound es h.2 n.1 k in
    (stood-before t s g e h.0 h.1 n.0 (stands-first (perform s e) es t r), r)

in-turn : (t : Target) (s : List ℕ) → Sound s → (es : List Effect) → AllServed s es → EntersFirst es → Addressable s t → Addressable (performs s es) t
    → StandsThrough s es t
in-turn t s g [] h n k l = l
in-turn t s g (e ∷ es) h n k l =
    let q = (perform-theorem s g e h.0 h.1).sound in (
      k,
      ⊎_elim (λ p. none-entered t (perform s e) q es h.2 (n.0 p) l)
          (λ p. in-turn t (perform s e) q es h.2 n.1 (stays_on t s g e h.0 h.1 p k) l) (decide (leaves_frame e)),
    )

pub stands-theorem : (s : List ℕ) → Sound s → (es : List Effect) → AllFit s es → OneRequest es → first_full s es ≡ false → EntersFirst es → (t : Target)
    → Addressable s t → Addressable (performs s es) t → StandsThrough s es t
stands-theorem s g es h k f n t before after = in-turn t s g es (all-served s es h k f) n before after
