-- What a sound segment has: the bounds of its parts, few cells, and soundness after a write outside array storage.
use Prim.Native.Nat.{ℕ, ◌+◌, ◌-◌, ◌/◌, ◌%◌, ◌^◌, ◌<◌, ◌≤◌}
use mathlib.Core.Path.{◌≡◌, ap}
use mathlib.Core.List.{List, ◌++◌}
use mathlib.Core.Logic.{◌≢◌, ◌⊎◌, inl, ⊎_elim}
use native.Mathlib.Omega.{arith}
use lib.ListN.{get_or, set, length, length-set, length-append}
use lib.Seq.{get_or-set_other}
use Rattle.segment.specs.State.{sbase, ltop, lbase, blockptr}
use Rattle.storage.specs.Owned.{CellsKept}
use Rattle.segment.specs.Machine.{cells_of_frames, Machine}
use Rattle.segment.specs.View.{words, owners, view}
use Rattle.segment.specs.Cells.{Cell}
use Rattle.segment.proofs.Runs.{downward-length, part_length}
use Rattle.storage_theorems.proofs.Walks.{over-le}
use Rattle.storage_theorems.specs.Elsewhere.{Elsewhere}
use Rattle.effects.specs.Sound.{Sound}
use Rattle.effects_theorems.specs.Theorems.{StateKept}
use Rattle.frame_theorems.proofs.Frames.{frames-length}

pub record Bounds (s : List ℕ) : Type 0 where
  pub low : 8 ≤ blockptr s
  pub mid : blockptr s + 3 ≤ sbase s
  pub short : length s ≤ 16384
  pub above : lbase s + 1 ≤ ltop s
  pub fits : sbase s + ltop s < length s

pub bounds : {s : List ℕ} → Sound s → Bounds s
bounds {s} g = record {
  low = g.own.heap.low;
  mid = omega (arith, g.own.heap.top, over-le (blockptr s) g.own.blocks);
  short = g.own.heap.short;
  above = g.above;
  fits = g.fits;
}

pub owners-few : (s : List ℕ) → Sound s → length (owners s) < 65535
unfolding words
owners-few s g =
    omega (
      arith,
      length-append (words s).temporaries (cells_of_frames (words s).frames ++ (words s).globals),
      length-append (cells_of_frames (words s).frames) (words s).globals,
      downward-length s (sbase s + lbase s + 2) (ltop s - (lbase s + 1)),
      part_length s 8 (blockptr s - 8),
      frames-length s,
      bounds g,
    )

-- a store outside array storage and the state words
pub set-elsewhere : (s : List ℕ) (i w : ℕ) → 8 ≤ blockptr s → 8 ≤ i → (i < blockptr s) ⊎ (sbase s ≤ i) → Elsewhere s (set s i w)
set-elsewhere s i w l k h =
    let other : (j : ℕ) → j ≢ i → get_or (set s i w) j 0 ≡ get_or s j 0 = λ j (m : j ≢ i). rw get_or-set_other in
    record {
      long = length-set s i w;
      bound = ap (λ (v : ℕ). v / 2 ^ 16) (other 0 (omega arith));
      turn = ap (λ (v : ℕ). v % 2 ^ 16) (other 1 (omega arith));
      start = other 4 (omega arith);
      inner = λ j p q. ⊎_elim (λ r. other j (omega (arith, r))) (λ r. other j (omega (arith, r))) h;
    }

-- what a step in array storage leaves of the state words
pub record Regs (s s' : List ℕ) : Type 0 where
  pub base : sbase s' ≡ sbase s
  pub top : ltop s' ≡ ltop s
  pub frame : lbase s' ≡ lbase s
  pub start : blockptr s' ≡ blockptr s
  pub long : length s' ≡ length s

pub kept-regs : {s s' : List ℕ} → CellsKept s s' → 8 ≤ blockptr s → Regs s s'
kept-regs k l = record {
  base = ap (λ (v : ℕ). v / 2 ^ 16) k.first;
  top = ap (λ (v : ℕ). v % 2 ^ 16) k.first;
  frame = k.base;
  start = k.rest 4 (omega arith) (inl (omega arith));
  long = k.long;
}

-- what an effect leaves: a sound segment, seen as the machine after it, and the state words that are not its own
pub record Done (s after : List ℕ) (m : Machine Cell) : Type 0 where
  pub sound : Sound after
  pub seen : view after ≡ m
  pub state : StateKept s after

-- and LTOP, LBASE and the rest, where no frame is entered or left and nothing pushed or taken
pub record InPlace (s after : List ℕ) (cells : Machine ℕ) (m : Machine Cell) : Type 0 where
  pub done : Done s after m
  pub regs : Regs s after
  pub held : words after ≡ cells
