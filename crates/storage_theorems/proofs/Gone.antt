-- The last owner of an array goes, and the block with it.
use Prim.Native.Nat.{ℕ, ◌+◌, ◌%◌, ◌^◌, ◌<◌, ◌≤◌}
use mathlib.Core.Path.{◌≡◌, ap}
use mathlib.Core.List.{List, ◌∷◌}
use mathlib.Core.Logic.{◌≢◌, inl, inr, ⊎_elim}
use native.Mathlib.Omega.{arith}
use lib.ListN.{get_or}
use Rattle.descriptor.specs.Fields.{array_word}
use Rattle.segment.specs.State.{blockptr}
use Rattle.segment.specs.Blocks.{count_at, shape_at, elements_at}
use Rattle.storage.specs.Release.{release}
use Rattle.storage.specs.Heap.{Block, count}
use Rattle.storage.specs.Owned.{ArrayIn, Inside, Owned, CellsKept, OwnedStep}
use Rattle.storage_theorems.specs.Words.{Leaves}
use Rattle.storage_theorems.specs.Release.{Release}
use Rattle.storage_theorems.proofs.Counts.{hit-cases}
use Rattle.storage_theorems.proofs.Arrays.{array-inner}
use Rattle.storage_theorems.proofs.Release.{release-theorem}
use Rattle.storage_theorems.proofs.Cells.{value_same, inside-same, cell_same, array_word-same}
use Rattle.storage_theorems.proofs.Owners.{array-place}

-- what is kept of the arrays that stay
module _ {s ws : List ℕ} (o : Owned s ws) (s' : List ℕ) (bs : List Block) (k : Leaves s s' bs) (x z : ℕ) (u : ArrayIn (blockptr s) o.blocks x z)
    (v : ArrayIn (blockptr s) bs x z) where
  pub leaves_word : (i : ℕ) → x < i → i < x + z → get_or s' i 0 ≡ get_or s i 0
  leaves_word i l m = k.quiet i (omega (arith, array-place o x z u)) (inr (inr (array-inner (blockptr s) bs x z i v l m)))

  pub leaves-second : get_or s' (x + 1) 0 ≡ get_or s (x + 1) 0
  leaves-second = leaves_word (x + 1) (omega arith) (omega (arith, array-place o x z u))

  pub leaves-value : (shape_at s' x ≡ shape_at s x) × (elements_at s' x ≡ elements_at s x)
  leaves-value = value_same s s' x z (o.inside x z u) (ap (λ (m : ℕ). m % 2 ^ 16) leaves-second) (λ i l m. leaves_word i (omega arith) m)

  pub leaves-inside : Inside s' x z
  leaves-inside = inside-same s s' x z (o.inside x z u) (ap (λ (m : ℕ). m % 2 ^ 16) leaves-second) (λ i l m. leaves_word i (omega arith) m)

pub leaves_kept : {s s' : List ℕ} {bs : List Block} → Leaves s s' bs → 8 ≤ blockptr s → CellsKept s s'
leaves_kept k l = record {
  long = k.long;
  first = k.quiet 0 (omega arith) (inl (omega arith));
  base = k.base;
  rest = λ i n h. k.quiet i (omega arith) (⊎_elim (λ q. inl q) (λ q. inr (inl q)) h);
}

-- the last owner goes, and the block with it
module _ {s ws : List ℕ} (x z : ℕ) (o : Owned s (array_word x ∷ ws)) (u : ArrayIn (blockptr s) o.blocks x z)
    (last : count (array_word x) ws ≡ 0) where
  out : Release s o.blocks x
  out = release-theorem o.heap x z u

  bp' : blockptr (release s x) ≡ blockptr s
  bp' = out.leaves.quiet 4 (omega arith) (inl (omega (arith, o.heap.low)))

  not-x : (y : ℕ) → 0 < count (array_word y) ws → y ≢ x
  not-x y h e = omega (arith, h, last, ap (λ (m : ℕ). count (array_word m) ws) e)

  less : (y : ℕ) → y ≢ x → count (array_word y) (array_word x ∷ ws) ≡ count (array_word y) ws
  less y n = ⊎_elim (λ e. absurd (n (array_word-same y x e.0))) (λ e. omega (arith, e)) (hit-cases (array_word y) (array_word x))

  more : (y : ℕ) → y < 2 ^ 16 → 0 < count (array_word y) ws → (v : ℕ) × ArrayIn (blockptr s) o.blocks y v
  more y l h = o.named y l (omega (arith, h))

  gone-own : Owned (release s x) ws
  gone-own = record {
    blocks = out.blocks;
    ring = out.ring;
    heap = out.heap;
    named = λ y l h. let n = more y l h in rw bp' (n.0, (out.others y n.0).1 (n.1, not-x y h));
    counts = λ y v k. now-counts y v (rw bp' at k);
    inside = λ y v k. now-inside y v (rw bp' at k);
  }
    where
      now-counts : (y v : ℕ) → ArrayIn (blockptr s) out.blocks y v
          → (count_at (release s x) y ≡ count (array_word y) ws) × (0 < count (array_word y) ws)
      now-counts y v k =
          let b = (out.others y v).0 k in
          rw (leaves-second o (release s x) out.blocks out.leaves y v b.0 k, ← less y b.1) (o.counts y v b.0)

      now-inside : (y v : ℕ) → ArrayIn (blockptr s) out.blocks y v → Inside (release s x) y v
      now-inside y v k = leaves-inside o (release s x) out.blocks out.leaves y v ((out.others y v).0 k).0 k

  pub gone : OwnedStep s (array_word x ∷ ws) (release s x) ws
  gone = record {
    own = gone-own;
    kept = leaves_kept out.leaves o.heap.low;
    same = λ w h k. cell_same s (release s x) w (λ y l e. let h' : 0 < count (array_word y) ws = rw e at k in let n = more y l h' in
        let b = (out.others y n.0).1 (n.1, not-x y h') in
        leaves-value o (release s x) out.blocks out.leaves y n.0 n.1 b);
  }
