-- A variable that an effect does not store to is looked at as before, where it stands before and after.
use Prim.Native.Nat.{ℕ, ◌%◌, ◌/◌, ◌^◌}
use mathlib.Core.Path.{◌≡◌, refl, sym, ◌∙◌}
use mathlib.Core.Bool.{Bool}
use mathlib.Core.List.{List, [], ◌∷◌, ◌++◌}
use lib.ListN.{replicate}
use Rattle.descriptor.specs.declared.Target.{Target}
use Rattle.descriptor.specs.declared.Target.TheVariants.{Local, Global}
use Rattle.segment.specs.Cells.{Cell, undefined}
use Rattle.segment.specs.Machine.{Frame, Machine}
use Rattle.manual.specs.Effects.{Effect, replaces, discards, swaps, stores, stores_element, enters, leaves, jumps, sets_origin, StoresTo, look_frames, look, put, InFrames, AddressableIn, with_temporaries, enter, older, leave, jump_frames, jump, with_origin, perform_on}
use Rattle.manual.proofs.Cellwise.{look-below, in-depth, look-other}

module _ {A : Type 0} (none : A) where
  -- operands are no variables
  with-look : (ts : List A) (t : Target) (m : Machine A) → look none t (with_temporaries ts m) ≡ look none t m
  with-look ts (Global g) m = refl
  with-look ts (Local a) m = refl

  pub enter-look : (n f : ℕ) (t : Target) (m : Machine A) → AddressableIn t m → look none t (enter none n f m) ≡ look none t m
  enter-look n f (Global g) m h = refl
  enter-look n f (Local a) m h =
      look-below a.0 none (record { function = f / 2 ^ 16; pctr = f % 2 ^ 16; cells = replicate n none ++ m.temporaries }) m.frames
      (in-depth a.0 m.frames h)

  older-look : (a : ℕ) (l : List (Frame A)) → InFrames a (older l) → look_frames none a (older l) ≡ look_frames none a l
  older-look a [] h = refl
  older-look a (r ∷ l) h = sym (look-below a none r l (in-depth a l h))

  pub leave-look : (n : ℕ) (result : Bool) (t : Target) (m : Machine A) → AddressableIn t (leave none n result m)
      → look none t (leave none n result m) ≡ look none t m
  leave-look n result (Global g) m h = refl
  leave-look n result (Local a) m h = older-look a.0 m.frames h

  jumped-look : (place a : ℕ) (l : List (Frame A)) → look_frames none a (jump_frames place l) ≡ look_frames none a l
  jumped-look place a [] = refl
  jumped-look place a (r ∷ l) = refl

  jump-look : (place : ℕ) (t : Target) (m : Machine A) → look none t (jump place m) ≡ look none t m
  jump-look place (Global g) m = refl
  jump-look place (Local a) m = jumped-look place a.0 m.frames

  origin-look : (v : ℕ) (t : Target) (m : Machine A) → look none t (with_origin v m) ≡ look none t m
  origin-look v (Global g) m = refl
  origin-look v (Local a) m = refl

pub performed-look : (e : Effect) (m : Machine Cell) (u : Target) → AddressableIn u m → AddressableIn u (perform_on e m) → (StoresTo e u → ⊥)
    → look undefined u (perform_on e m) ≡ look undefined u m
performed-look (replaces n source) m u h k d = with-look undefined _ u m
performed-look (discards n) m u h k d = with-look undefined _ u m
performed-look swaps m u h k d = with-look undefined _ u m
performed-look (stores t source) m u h k d = look-other undefined _ t u m d
performed-look (stores_element t place w n) m u h k d = with-look undefined _ u (put t _ m) ∙ look-other undefined _ t u m d
performed-look (enters n f) m u h k d = enter-look undefined n f u m h
performed-look (leaves n result) m u h k d = leave-look undefined n result u m k
performed-look (jumps place) m u h k d = jump-look undefined (place % 2 ^ 16) u m
performed-look (sets_origin v) m u h k d = origin-look undefined v u m
