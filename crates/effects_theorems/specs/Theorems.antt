-- What is proved of effects on words. Demand 2 of document 01 rests on it: what an instruction leaves is sound again, its view
-- is the effect that the manual speaks of, every variable that is not stored to is seen as before, though arrays are shared,
-- and (1,2) is given exactly where no free block is long enough. Proved in proofs/Theorems. Assumes nothing.
use Rattle.std.specs.Prelude.{ℕ, ◌-◌, ◌≤◌, ◌<◌, ◌≡◌, Bool, true, false, ◌↔◌, ◌≢◌, List, [], ◌∷◌, get_or, length}
use Rattle.descriptor.specs.declared.Target.{Target}
use Rattle.segment.specs.State.{sbase, flags}
use Rattle.segment.specs.Cells.{undefined}
use Rattle.storage.specs.Heap.{Block}
use Rattle.segment.specs.View.{view}
use Rattle.storage_theorems.specs.Words.{HasRoom}
use Rattle.manual.specs.Effects.{Effect, replaces, discards, swaps, stores, stores_element, enters, leaves, jumps, sets_origin, StoresTo, NoneStoresTo, look, perform_on, perform_all}
use Rattle.manual.specs.OrTrap.{gives}
use Rattle.manual.specs.Seen.{Variable, seen_of}
use Rattle.effects.specs.Perform.{perform, performs, wanted, is_full, first_full}
use Rattle.effects.specs.Seen.{seen}
use Rattle.effects.specs.Alike.{seen_by, HasFrame, Resolved}
use Rattle.effects.specs.Sound.{Sound}
use Rattle.effects.specs.Fits.{Addressable, Fits}
use Rattle.effects.specs.Requests.{AllFit, FirstFits, OneRequest}

-- ---- one effect

pub record Performed (s : List ℕ) (e : Effect) : Type 0 where
  pub sound : Sound (perform s e)
  pub seen : view (perform s e) ≡ perform_on e (view s)

-- What effects leave of the state words: SBASE, the trap's word, BLOCKPTR and the three behind it. The length stays too.
pub record StateKept (s after : List ℕ) : Type 0 where
  pub long : length after ≡ length s
  pub base : sbase after ≡ sbase s
  pub rest : (i : ℕ) → 3 ≤ i → i < 8 → get_or after i 0 ≡ get_or s i 0

-- The effect writes the flags.
abbrev pub SetsFlags : Effect → Type 0
SetsFlags (replaces n source) = ⊥
SetsFlags (discards n) = ⊥
SetsFlags swaps = ⊥
SetsFlags (stores t source) = ⊥
SetsFlags (stores_element t place w n) = ⊥
SetsFlags (enters n f) = ⊥
SetsFlags (leaves n result) = ⊥
SetsFlags (jumps place) = ⊥
SetsFlags (sets_origin v) = Unit {0}

-- ---- effects one after the other

pub record PerformedAll (s : List ℕ) (es : List Effect) : Type 0 where
  pub sound : Sound (performs s es)
  pub seen : view (performs s es) ≡ perform_all es (view s)

-- The variable stands before the effects, after them, and between each two of them.
abbrev pub StandsThrough : List ℕ → List Effect → Target → Type 0
StandsThrough s [] t = Addressable s t
StandsThrough s (e ∷ es) t = Addressable s t × StandsThrough (perform s e) es t

-- The effect enters a frame; it leaves one.
abbrev pub enters_frame : Effect → Bool
enters_frame (replaces n source) = false
enters_frame (discards n) = false
enters_frame swaps = false
enters_frame (stores t source) = false
enters_frame (stores_element t place w n) = false
enters_frame (enters n f) = true
enters_frame (leaves n result) = false
enters_frame (jumps place) = false
enters_frame (sets_origin v) = false

abbrev pub leaves_frame : Effect → Bool
leaves_frame (replaces n source) = false
leaves_frame (discards n) = false
leaves_frame swaps = false
leaves_frame (stores t source) = false
leaves_frame (stores_element t place w n) = false
leaves_frame (enters n f) = false
leaves_frame (leaves n result) = true
leaves_frame (jumps place) = false
leaves_frame (sets_origin v) = false

-- No frame is entered once one was left, as in every plan of the manual.
abbrev pub NoneEnters : List Effect → Type 0
NoneEnters [] = Unit {0}
NoneEnters (e ∷ es) = (enters_frame e ≡ false) × NoneEnters es

abbrev pub EntersFirst : List Effect → Type 0
EntersFirst [] = Unit {0}
EntersFirst (e ∷ es) = (leaves_frame e ≡ true → NoneEnters es) × EntersFirst es

-- The first effect asks for a block, and no free block is long enough.
abbrev pub AsksInVain : List ℕ → List Block → List Effect → Type 0
AsksInVain s blocks [] = ⊥
AsksInVain s blocks (e ∷ es) = (wanted s e ≢ 0) × (HasRoom blocks (wanted s e) → ⊥)

-- ---- the theorems

pub record EffectsTheorems : Type 0 where
  pub performed : (s : List ℕ) → Sound s → (e : Effect) → Fits s e → is_full s e ≡ false → Performed s e
  -- Every variable that stands before and after, and that is not stored to, is seen as before.
  pub others : (s : List ℕ) → Sound s → (e : Effect) → Fits s e → is_full s e ≡ false → (t : Target) → Addressable s t → Addressable (perform s e) t
      → (StoresTo e t → ⊥) → look undefined t (view (perform s e)) ≡ look undefined t (view s)
  -- State words that are not the effect's stay.
  pub kept : (s : List ℕ) → Sound s → (e : Effect) → Fits s e → is_full s e ≡ false → StateKept s (perform s e)
  pub flags_kept : (s : List ℕ) → Sound s → (e : Effect) → Fits s e → is_full s e ≡ false → (SetsFlags e → ⊥) → flags (perform s e) ≡ flags s
  pub all_performed : (s : List ℕ) → Sound s → (es : List Effect) → AllFit s es → OneRequest es → first_full s es ≡ false → PerformedAll s es
  pub all_kept : (s : List ℕ) → Sound s → (es : List Effect) → AllFit s es → OneRequest es → first_full s es ≡ false → StateKept s (performs s es)
  -- Every variable that stands all through, and that none stores to, is seen as before.
  pub all_others : (s : List ℕ) → Sound s → (es : List Effect) → AllFit s es → OneRequest es → first_full s es ≡ false → (t : Target) → StandsThrough s es t
      → NoneStoresTo es t → look undefined t (view (performs s es)) ≡ look undefined t (view s)
  -- Where no frame is entered once one was left, a variable that stands before and after stands all through.
  pub stands : (s : List ℕ) → Sound s → (es : List Effect) → AllFit s es → OneRequest es → first_full s es ≡ false → EntersFirst es → (t : Target)
      → Addressable s t → Addressable (performs s es) t → StandsThrough s es t
  -- (1,2) is given exactly where a block is asked for and none is long enough.
  pub full : (s : List ℕ) (sound : Sound s) (es : List Effect) → FirstFits s es → (first_full s es ≡ true) ↔ AsksInVain s sound.own.blocks es
  -- What an instruction of the running function sees of the words is what it sees of the view.
  pub alike : (s : List ℕ) → Sound s → (variables : ℕ) (result : Bool) → HasFrame s variables result
      → seen_by variables result (seen s) ≡ seen_by variables result (seen_of (length s - sbase s) (view s))
  -- An address that is not trapped leads to a variable.
  pub local : (s : List ℕ) → Sound s → (variables : ℕ) (result : Bool) → HasFrame s variables result → (v : ℕ) (x : Variable)
      → (seen s).local variables v ≡ gives x → Resolved s x
  pub global : (s : List ℕ) → Sound s → (variables : ℕ) (result : Bool) → HasFrame s variables result → (g : ℕ) (x : Variable)
      → (seen s).global g ≡ gives x → Resolved s x
