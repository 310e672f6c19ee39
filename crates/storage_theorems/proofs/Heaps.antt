-- A heap from its parts, and the walk behind a block that is free from now on.
use Prim.Native.Nat.{ℕ, ◌+◌, ◌-◌, ◌%◌, ◌^◌, ◌<◌}
use mathlib.Core.Path.{◌≡◌, refl, sym, subst, ◌∙◌}
use mathlib.Core.Bool.{Bool, true, false}
use mathlib.Core.List.{List, [], ◌∷◌}
use native.Mathlib.Omega.{arith}
use lib.ListN.{get_or, length}
use borrow.Author.Tests.{leb-false}
use Rattle.segment.specs.State.{sbase, rover, blockptr}
use Rattle.segment.specs.Blocks.{free_at, prev_free_at}
use Rattle.storage.specs.Heap.{Block, ArrayBlock, Walk, over, frees, count, Links, Heap, free, array}
use Rattle.storage_theorems.proofs.Walks.{Same, over-le, walk_same}
use Rattle.storage_theorems.proofs.Ring.{ring-at}

-- a walk after a block that is free from now on
pub walk-mark : (s s' : List ℕ) (a : ℕ) (bs : List Block) → Walk s a false bs → free_at s a ≡ false → Same s s' (a + 1) (over a bs + 1)
    → get_or s' a 0 ≡ get_or s a 0 % 2 ^ 30 + 2 ^ 30 → over a bs < 2 ^ 16 → Walk s' a true bs
walk-mark s s' a [] h n e k w = k ∙ rw h
walk-mark s s' a (free m ∷ bs) h n e k w = absurd (omega (arith, leb-false (2 ^ 31) (get_or s a 0) n, h.0.first))
walk-mark s s' a (array z m ∷ bs) h n e k w = (
  record {
    least = h.0.least;
    small = h.0.small;
    first = omega (arith, h.0.first, h.0.small, k, over-le (a + (z + m)) bs);
  },
  walk_same s s' (a + (z + m)) false bs h.1 (λ i l u. e i (omega (arith, h.0.least)) u),
)

-- a heap from its parts, with the ring from any member
pub member-is : {x y : ℕ} (l : List ℕ) → x ≡ y → 0 < count y l → 0 < count x l
member-is l e h = subst (λ (r : ℕ). 0 < count r l) (sym e) h

pub heap-make : {s : List ℕ} {bs : List Block} {t : List ℕ} → Heap s bs t → (s' : List ℕ) (bs' : List Block) → length s' ≡ length s
    → get_or s' 0 0 ≡ get_or s 0 0 → get_or s' 4 0 ≡ get_or s 4 0
    → get_or s' (sbase s - 1) 0 ≡ get_or s (sbase s - 1) 0
    → Walk s' (blockptr s) false bs' → over (blockptr s) bs' ≡ over (blockptr s) bs → (a : ℕ) (u : List ℕ) → Links s' a u a
    → ((x : ℕ) → count x (a ∷ u) ≡ count x (over (blockptr s) bs ∷ frees (blockptr s) bs')) → (r : ℕ) → rover s' ≡ r
    → 0 < count r (over (blockptr s) bs ∷ frees (blockptr s) bs')
    → (t' : List ℕ) × Heap s' bs' t'
heap-make {s} {bs} g s' bs' len z0 z4 ze walk ov a u links c r e m =
    let member : 0 < count (rover s') (a ∷ u) = member-is (a ∷ u) e (omega (arith, c r, m)) in
    let r = ring-at s' a u (rover s') links member in (
      r.0,
      record {
        low = omega (arith, z4, g.low);
        walk = rw z4 walk;
        top = rw (z4, z0, ov) g.top;
        dummy_end = rw z0 (ze ∙ g.dummy_end);
        room = omega (arith, z0, len, g.room);
        short = omega (arith, len, g.short);
        links = r.1;
        once = λ x. rw (z4, ov) (r.2 x ∙ c x);
      },
    )

-- PREVFREE as the walk has it
pub not-prev : {s : List ℕ} {a z k : ℕ} (q : Bool) → ArrayBlock s a q z k → a + (z + k) < 2 ^ 16 → prev_free_at s a ≡ false → q ≡ false
not-prev {s} {a} true h l e = absurd (omega (arith, leb-false (2 ^ 30) (get_or s a 0 % 2 ^ 31) e, h.first, h.small))
not-prev false h l e = refl
