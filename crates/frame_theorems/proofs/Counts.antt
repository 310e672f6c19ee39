-- How often a word stands in the cells of a machine, and the same machine seen by two functions that agree on its words.
use Prim.Native.Nat.{ℕ, zero, suc, ◌+◌, ◌-◌, ◌<◌, ◌≤◌}
use mathlib.Core.Path.{◌≡◌, refl, ◌∙◌, ap}
use mathlib.Core.List.{List, [], ◌∷◌, ◌++◌, map}
use mathlib.Core.Logic.{⊎_elim}
use native.Mathlib.Omega.{arith}
use lib.ListN.{get_or, set, length}
use Rattle.descriptor.specs.declared.Target.{Target}
use Rattle.descriptor.specs.declared.Target.TheVariants.{Local, Global}
use Rattle.storage.specs.Heap.{hit, count}
use Rattle.segment.specs.Machine.{Frame, Machine, map_frames, map_machine, cells_of_frames, all_cells, depth_of_frames}
use Rattle.manual.specs.Effects.{index_in, put_frames, put, swapped, current_cells, older, InFrames, AddressableIn}
use Rattle.manual.proofs.Cellwise.{global-in, put-here, put-below, in-cases}
use Rattle.storage_theorems.proofs.Counts.{hit_same, count-append}

-- functions that agree on all cells
pub map-agree : {A : Type 0} (f g : ℕ → A) (l : List ℕ) → ((w : ℕ) → 0 < count w l → f w ≡ g w) → map f l ≡ map g l
map-agree f g [] h = refl
map-agree f g (w ∷ l) h =
    let e : f w ≡ g w = h w (omega (arith, hit_same w)) in
    let r : map f l ≡ map g l = map-agree f g l (λ v c. h v (omega arith)) in
    cc

frames-agree : {A : Type 0} (f g : ℕ → A) (l : List (Frame ℕ)) → ((w : ℕ) → 0 < count w (cells_of_frames l) → f w ≡ g w)
    → map_frames f l ≡ map_frames g l
frames-agree f g [] h = refl
frames-agree f g (r ∷ l) h =
    rw (
      map-agree f g r.cells (λ w c. h w (omega (arith, c, count-append w r.cells (cells_of_frames l)))),
      frames-agree f g l (λ w c. h w (omega (arith, c, count-append w r.cells (cells_of_frames l)))),
    )

pub cells_count : (w : ℕ) (m : Machine ℕ)
    → count w (all_cells m) ≡ count w m.temporaries + (count w (cells_of_frames m.frames) + count w m.globals)
cells_count w m =
    count-append w m.temporaries (cells_of_frames m.frames ++ m.globals)
    ∙ ap (λ (n : ℕ). count w m.temporaries + n) (count-append w (cells_of_frames m.frames) m.globals)

pub machine-agree : {A : Type 0} (f g : ℕ → A) (m : Machine ℕ) → ((w : ℕ) → 0 < count w (all_cells m) → f w ≡ g w) → map_machine f m ≡ map_machine g m
machine-agree f g m h =
    rw (
      map-agree f g m.temporaries (λ w c. h w (omega (arith, c, cells_count w m))),
      frames-agree f g m.frames (λ w c. h w (omega (arith, c, cells_count w m))),
      map-agree f g m.globals (λ w c. h w (omega (arith, c, cells_count w m))),
    )

-- ---- lists and frames

pub swapped-count : (x : ℕ) (l : List ℕ) → count x (swapped l) ≡ count x l
swapped-count x [] = refl
swapped-count x (a ∷ []) = refl
swapped-count x (a ∷ b ∷ l) = omega arith

pub count-get_or : (l : List ℕ) (i z : ℕ) → i < length l → 0 < count (get_or l i z) l
count-get_or [] i z h = absurd (omega arith)
count-get_or (y ∷ l) zero z h = omega (arith, hit_same y)
count-get_or (y ∷ l) (suc i) z h = omega (arith, count-get_or l i z (omega arith))

count_set : (x : ℕ) (l : List ℕ) (j u v : ℕ) → j < length l → count x (set l j u) + hit x v ≡ count x (set l j v) + hit x u
count_set x [] j u v h = absurd (omega arith)
count_set x (y ∷ l) zero u v h = omega arith
count_set x (y ∷ l) (suc j) u v h = omega (arith, count_set x l j u v (omega arith))

pub current-count : (x : ℕ) (l : List (Frame ℕ)) → count x (cells_of_frames l) ≡ count x (current_cells l) + count x (cells_of_frames (older l))
current-count x [] = refl
current-count x (r ∷ l) = count-append x r.cells (cells_of_frames l)

-- ---- a variable that is written

count-frames : (x : ℕ) (l : List (Frame ℕ)) (a u v : ℕ) → InFrames a l
    → count x (cells_of_frames (put_frames a u l)) + hit x v ≡ count x (cells_of_frames (put_frames a v l)) + hit x u
count-frames x [] a u v h = absurd h
count-frames x (r ∷ l) a u v h =
    ⊎_elim
    (λ (k : (depth_of_frames l ≤ a) × (index_in r.cells l a < length r.cells)).
    rw (put-here a u r l k.0, put-here a v r l k.0)
    (omega (
      arith,
      count-append x (set r.cells (index_in r.cells l a) u) (cells_of_frames l),
      count-append x (set r.cells (index_in r.cells l a) v) (cells_of_frames l),
      count_set x r.cells (index_in r.cells l a) u v k.1,
    )))
    (λ (k : (a < depth_of_frames l) × InFrames a l).
    rw (put-below a u r l k.0, put-below a v r l k.0)
    (omega (
      arith,
      count-append x r.cells (cells_of_frames (put_frames a u l)),
      count-append x r.cells (cells_of_frames (put_frames a v l)),
      count-frames x l a u v k.1,
    )))
    (in-cases a r l h)

pub count-put : (x : ℕ) (t : Target) (m : Machine ℕ) (u v : ℕ) → AddressableIn t m
    → count x (all_cells (put t u m)) + hit x v ≡ count x (all_cells (put t v m)) + hit x u
count-put x (Global g) m u v h =
    rw (global-in m.globals g.0 h.0)
    (omega (
      arith,
      cells_count x (record { flags = m.flags; temporaries = m.temporaries; frames = m.frames; globals = set m.globals (g.0 - 8) u }),
      cells_count x (record { flags = m.flags; temporaries = m.temporaries; frames = m.frames; globals = set m.globals (g.0 - 8) v }),
      count_set x m.globals (g.0 - 8) u v (omega (arith, h)),
    ))
count-put x (Local a) m u v h =
    omega (arith, cells_count x (put (Local a) u m), cells_count x (put (Local a) v m), count-frames x m.frames a.0 u v h)
