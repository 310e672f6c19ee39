-- Every effect on words is the effect on the view, and leaves the state words that are not its own.
use Prim.Native.Nat.{ℕ, ◌%◌, ◌^◌, ◌<◌, ◌≤◌}
use mathlib.Core.Path.{◌≡◌, refl, sym, ◌∙◌, ap}
use mathlib.Core.Bool.{true, false, cond}
use mathlib.Core.Logic.{◌≢◌, ◌⊎◌, inl, inr, ⊎_elim}
use mathlib.Core.List.{List}
use native.Mathlib.Omega.{arith}
use lib.Dec.{ltb, eqb}
use borrow.Author.Tests.{eqb-false, ne_eqb, le-leb}
use Rattle.descriptor.specs.declared.Target.{Target}
use Rattle.descriptor.specs.declared.Target.TheVariants.{Local, Global}
use Rattle.descriptor.specs.Fields.{array_word}
use Rattle.segment.specs.State.{flags}
use Rattle.segment.specs.Blocks.{count_at, shape_at, elements_at, need}
use Rattle.segment.specs.Cells.{Cell, undefined, value, cell}
use Rattle.storage.specs.Request.{request_at}
use Rattle.storage.specs.Arrays.{place_at}
use Rattle.segment.specs.Machine.{Machine}
use Rattle.segment.specs.View.{words, view}
use Rattle.manual.specs.Effects as manual
use Rattle.manual.specs.Effects.{Source, variable, operand, word, undefined_value, reference, made, Effect, replaces, discards, swaps, stores, stores_element, enters, leaves, jumps, sets_origin}
use Rattle.manual.proofs.Tests.{none-holds}
use Rattle.storage_theorems.proofs.Counts.{order}
use Rattle.storage_theorems.proofs.Cells.{array_of, cell-array}
use Rattle.effects.specs.Sources.{address_of, held_at, source_word, placed}
use Rattle.effects.specs.Perform.{block_of, replace, store_at, store, perform, source_need, none_for, is_full}
use Rattle.effects.specs.Sound.{Sound}
use Rattle.effects.specs.Fits.{HasElement, Fits}
use Rattle.effects_theorems.specs.Theorems.{Performed, StateKept, SetsFlags}
use Rattle.effects_theorems.proofs.Variables.{look-view}
use Rattle.effects_theorems.proofs.Sources.{Found, put-source}
use Rattle.effects_theorems.proofs.Sound.{Done}
use Rattle.effects_theorems.proofs.Replace.{finish-done}
use Rattle.effects_theorems.proofs.Discard.{discard-done}
use Rattle.effects_theorems.proofs.Swap.{swap-done}
use Rattle.effects_theorems.proofs.State.{jump-done, origin-done}
use Rattle.effects_theorems.proofs.Store.{stored}
use Rattle.effects_theorems.proofs.Element.{stored-element}
use Rattle.effects_theorems.proofs.Enter.{enter-done}
use Rattle.effects_theorems.proofs.Leave.{with-done, without-done}

-- what is not full is found
served : (s : List ℕ) (n : ℕ) → n ≢ 0 → cond (eqb n 0) false (none_for s n) ≡ false → request_at s n ≢ 0
served s n d h = eqb-false (request_at s n) 0 (none-holds (ltb 16384 n) (eqb (request_at s n) 0) (rw (ne_eqb n 0 d) at h)).1

pub source-found : (s : List ℕ) (source : Source) → cond (eqb (source_need source) 0) false (none_for s (source_need source)) ≡ false → Found s source
unfolding place_at
source-found s (variable t) h = tt
source-found s (operand i) h = tt
source-found s (word w) h = tt
source-found s undefined_value h = tt
source-found s (reference t) h = tt
source-found s (made shape ravel) h = served s (need shape ravel) (omega arith) h

-- ASSIGN_INDEXED's copy
module _ (s : List ℕ) (g : Sound s) (t : Target) (place w n : ℕ) (has : HasElement s t place) where
  abbrev x : ℕ
  x = block_of s (address_of s t)

  pub x-is : held_at s t ≡ array_word x
  x-is = array_of (held_at s t) has.holds

  pub x-small : x < 2 ^ 16
  x-small = omega arith

  pub copied : is_full s (stores_element t place w n) ≡ false → (count_at s x < 2) ⊎ (place_at s (shape_at s x) (elements_at s x) ≢ 0)
  unfolding place_at
  copied h =
      ⊎_elim
      (λ (l : 2 ≤ count_at s x). inr (served s (need (shape_at s x) (elements_at s x)) (omega arith) (rw (le-leb 2 (count_at s x) l) at h))) (λ l. inl l)
      (order 2 (count_at s x))

  held : manual.look undefined t (view s) ≡ value (shape_at s x) (elements_at s x)
  held = sym (look-view s g t has.there) ∙ ap (cell s) x-is ∙ cell-array s x x-small

-- an effect that is served
effect-done : (s : List ℕ) → Sound s → (e : Effect) → Fits s e → is_full s e ≡ false → Done s (perform s e) (manual.perform_on e (view s))
unfolding replace store store_at
effect-done s g (replaces n source) h f =
    finish-done s g n (source_word s source) (manual.meant source (view s)) (placed s source) (put-source s g source h.1 (source-found s source f)) h.0
effect-done s g (discards n) h f = discard-done s g n h
effect-done s g swaps h f = swap-done s g h
effect-done s g (stores t source) h f =
    (stored s g t h.0 (source_word s source) (manual.meant source (view s)) (placed s source) (put-source s g source h.1 (source-found s source f))).done
effect-done s g (stores_element t place w n) h f =
    let has = h.1 in
    rw (held s g t place w n has)
    (stored-element s g t has.there (block_of s (address_of s t)) (x-is s g t place w n has) (x-small s g t place w n has) place w n has.inside h.2
    (copied s g t place w n has f) h.0)
effect-done s g (enters n f) h full = enter-done s g n f h
effect-done s g (leaves n true) h f = with-done s g n h
effect-done s g (leaves n false) h f = without-done s g n h
effect-done s g (jumps place) h f = jump-done s g (place % 2 ^ 16) (omega arith)
effect-done s g (sets_origin v) h f = origin-done s g v

pub perform-theorem : (s : List ℕ) → Sound s → (e : Effect) → Fits s e → is_full s e ≡ false → Performed s e
perform-theorem s g e h f = let d = effect-done s g e h f in record { sound = d.sound; seen = d.seen }

pub kept-theorem : (s : List ℕ) → Sound s → (e : Effect) → Fits s e → is_full s e ≡ false → StateKept s (perform s e)
kept-theorem s g e h f = (effect-done s g e h f).state

-- the flags are seen
flags-performed : (e : Effect) (m : Machine Cell) → (SetsFlags e → ⊥) → (manual.perform_on e m).flags ≡ m.flags
flags-performed (replaces n source) m h = refl
flags-performed (discards n) m h = refl
flags-performed swaps m h = refl
flags-performed (stores (Local a) source) m h = refl
flags-performed (stores (Global g) source) m h = refl
flags-performed (stores_element (Local a) place w n) m h = refl
flags-performed (stores_element (Global g) place w n) m h = refl
flags-performed (enters n f) m h = refl
flags-performed (leaves n result) m h = refl
flags-performed (jumps place) m h = refl
flags-performed (sets_origin v) m h = absurd (h tt)

pub flags-theorem : (s : List ℕ) → Sound s → (e : Effect) → Fits s e → is_full s e ≡ false → (SetsFlags e → ⊥) → flags (perform s e) ≡ flags s
unfolding view words
flags-theorem s g e h f n = ap (λ (m : Machine Cell). m.flags) (perform-theorem s g e h f).seen ∙ flags-performed e (view s) n
