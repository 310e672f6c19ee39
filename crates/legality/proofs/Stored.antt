-- A store of a direct cell: the machine after it is alike.
use Prim.Native.Nat.{ℕ, zero, suc, ◌≤◌, ◌<◌}
use mathlib.Core.Path.{◌≡◌, refl}
use mathlib.Core.Logic.{◌⊎◌, inl, inr, ⊎_elim}
use mathlib.Core.List.{List, [], ◌∷◌}
use lib.ListN.{get_or, set, length-set}
use Rattle.descriptor.specs.declared.Target.{Target}
use Rattle.descriptor.specs.declared.Target.TheVariants.{Local, Global}
use Rattle.segment.specs.Cells.{Cell, undefined}
use Rattle.segment.specs.Machine.{Frame, Machine, depth_of_frames}
use Rattle.manual.specs.Effects.{index_in, global_index, put_frames, put}
use Rattle.storage_theorems.proofs.Counts.{order}
use Rattle.legality.specs.Legal.{DirectCell}
use Rattle.manual.proofs.Cellwise.{put-here, put-below}
use Rattle.legality.proofs.Alike.{LikeCells, LikeFrames, same-cells, same-frames, Like}

set-each : (l : List Cell) (j i : ℕ) (c : Cell) → DirectCell c
    → (get_or (set l j c) i undefined ≡ get_or l i undefined) ⊎ DirectCell (get_or (set l j c) i undefined)
set-each [] j i c d = inl refl
set-each (x ∷ l) zero zero c d = inr d
set-each (x ∷ l) zero (suc i) c d = inl refl
set-each (x ∷ l) (suc j) zero c d = inl refl
set-each (x ∷ l) (suc j) (suc i) c d = set-each l j i c d

set-like : (l : List Cell) (j : ℕ) (c : Cell) → DirectCell c → LikeCells l (set l j c)
set-like l j c d = record { size = length-set l j c; each = λ i. set-each l j i c d }

frames-like : (a : ℕ) (c : Cell) (l : List (Frame Cell)) → DirectCell c → LikeFrames l (put_frames a c l)
frames-like a c [] d = tt
frames-like a c (r ∷ l) d =
    ⊎_elim (λ (h : depth_of_frames l ≤ a). rw (put-here a c r l h) (record { function = refl; cells = set-like r.cells (index_in r.cells l a) c d }, same-frames l))
    (λ (h : a < depth_of_frames l). rw (put-below a c r l h) (record { function = refl; cells = same-cells r.cells }, frames-like a c l d))
    (order (depth_of_frames l) a)

pub put-like : (t : Target) (c : Cell) (m : Machine Cell) → DirectCell c → Like m (put t c m)
put-like (Global g) c m d = record { frames = same-frames m.frames; globals = set-like m.globals (global_index m.globals g.0) c d }
put-like (Local a) c m d = record { frames = frames-like a.0 c m.frames d; globals = same-cells m.globals }
