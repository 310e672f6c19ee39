-- A write outside array storage leaves the arrays, their owners and what they are seen as.
use Prim.Native.Nat.{ℕ, ◌+◌, ◌-◌, ◌%◌, ◌^◌, ◌<◌}
use mathlib.Core.Path.{◌≡◌, ◌∙◌, ap}
use mathlib.Core.Bool.{false}
use mathlib.Core.List.{List, ◌∷◌}
use native.Mathlib.Omega.{arith}
use lib.ListN.{get_or}
use Rattle.descriptor.specs.Fields.{array_word}
use Rattle.segment.specs.State.{sbase, rover, blockptr}
use Rattle.segment.specs.Blocks.{count_at}
use Rattle.storage.specs.Heap.{Block, count, Heap}
use Rattle.segment.specs.Cells.{cell}
use Rattle.storage.specs.Owned.{ArrayIn, Inside, Owned}
use Rattle.storage_theorems.proofs.Walks.{over-le, walk_same}
use Rattle.storage_theorems.proofs.Counts.{hit_same}
use Rattle.storage_theorems.proofs.Ring.{links-same}
use Rattle.storage_theorems.proofs.Search.{member-within}
use Rattle.storage_theorems.specs.Elsewhere.{Elsewhere}
use Rattle.storage_theorems.proofs.Cells.{value_same, inside-same, cell_same}
use Rattle.storage_theorems.proofs.Owners.{array-place}

-- a change outside array storage leaves the arrays and their owners
module _ {s s' : List ℕ} (h : Elsewhere s s') where
  heap-elsewhere : {bs : List Block} {t : List ℕ} → Heap s bs t → Heap s' bs t
  heap-elsewhere {bs} {t} g = record {
    low = omega (arith, h.start, g.low);
    walk = rw h.start (walk_same s s' (blockptr s) false bs g.walk (λ i l u. h.inner i l (omega (arith, g.top))));
    top = rw (h.start, h.bound) g.top;
    dummy_end = rw h.bound (h.inner (sbase s - 1) (omega (arith, g.top, over-le (blockptr s) bs)) (omega (arith, g.top)) ∙ g.dummy_end);
    room = omega (arith, h.bound, h.long, g.room);
    short = omega (arith, h.long, g.short);
    links = rw h.turn (links-same s s' (rover s) t (rover s) g.links member (member (rover s) (omega (arith, hit_same (rover s)))));
    once = λ x. rw (h.turn, h.start) (g.once x);
  }
    where
      member : (x : ℕ) → 0 < count x (rover s ∷ t) → get_or s' (x + 1) 0 ≡ get_or s (x + 1) 0
      member x c = h.inner (x + 1) (omega (arith, member-within g x c)) (omega (arith, member-within g x c, g.top))

  module _ {ws : List ℕ} (o : Owned s ws) where
    word_same : (x z : ℕ) → ArrayIn (blockptr s) o.blocks x z → (i : ℕ) → x < i → i < x + z → get_or s' i 0 ≡ get_or s i 0
    word_same x z u i l m = h.inner i (omega (arith, array-place o x z u)) (omega (arith, array-place o x z u))

    second-same : (x z : ℕ) → ArrayIn (blockptr s) o.blocks x z → get_or s' (x + 1) 0 ≡ get_or s (x + 1) 0
    second-same x z u = word_same x z u (x + 1) (omega arith) (omega (arith, array-place o x z u))

    pub own-elsewhere : Owned s' ws
    own-elsewhere = record {
      blocks = o.blocks;
      ring = o.ring;
      heap = heap-elsewhere o.heap;
      named = λ x l c. rw h.start (o.named x l c);
      counts = λ x z u. now-counts x z (rw h.start at u);
      inside = λ x z u. now-inside x z (rw h.start at u);
    }
      where
        now-counts : (x z : ℕ) → ArrayIn (blockptr s) o.blocks x z → (count_at s' x ≡ count (array_word x) ws) × (0 < count (array_word x) ws)
        now-counts x z u = rw (second-same x z u) (o.counts x z u)

        now-inside : (x z : ℕ) → ArrayIn (blockptr s) o.blocks x z → Inside s' x z
        now-inside x z u =
            inside-same s s' x z (o.inside x z u) (ap (λ (m : ℕ). m % 2 ^ 16) (second-same x z u)) (λ i l m. word_same x z u i (omega arith) m)

    pub cell-elsewhere : (w : ℕ) → 0 < count w ws → cell s' w ≡ cell s w
    cell-elsewhere w c =
        cell_same s s' w (λ x l e. let n = o.named x l (rw e at c) in
        value_same s s' x n.0 (o.inside x n.0 n.1) (ap (λ (m : ℕ). m % 2 ^ 16) (second-same x n.0 n.1))
        (λ i k m. word_same x n.0 n.1 i (omega arith) m))
