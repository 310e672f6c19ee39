-- A join is copied straight: what a request writes stands clear of the cells and of the elements of arrays.
use Prim.Native.Nat.{ℕ, ◌+◌, ◌%◌, ◌^◌, ◌<◌, ◌≤◌}
use mathlib.Core.Path.{◌≡◌}
use mathlib.Core.Bool.{Bool, true, false}
use mathlib.Core.List.{List, [], ◌∷◌}
use mathlib.Core.Logic.{◌≢◌, ◌⊎◌, inl, inr, ⊎_elim}
use native.Mathlib.Omega.{arith}
use lib.ListN.{length}
use Rattle.segment.specs.State.{rover, sbase, blockptr}
use Rattle.segment.specs.Blocks.{size_at, next_at, last_at}
use Rattle.segment.specs.declared.blocks.Part.{Part}
use Rattle.storage.specs.Request.{find}
use Rattle.storage.specs.Heap.{Block, Walk, over, frees, count, Links, Heap, free, array}
use Rattle.storage.specs.Owned.{ArrayIn, Owned}
use Rattle.storage_theorems.proofs.Walks.{over-le, walk-dummy}
use Rattle.storage_theorems.proofs.Counts.{hit-cases}
use Rattle.storage_theorems.proofs.Arrays.{array-within}
use Rattle.storage_theorems.proofs.Ring.{ring-at, links-first, links-last}
use Rattle.storage_theorems.proofs.Search.{found-cases, find-is, member-within}
use Rattle.storage_theorems.proofs.Inner.{reach}
use Rattle.storage_theorems.proofs.Owners.{array-place}
use Rattle.storage_joins.specs.Joined.{straight}
use Rattle.storage_joins.proofs.Joining.{Kept, straight-holds}
use Rattle.effects_theorems.proofs.Variables.{operand-owner}
use Rattle.placement.specs.Straight.{IsCell, Copyable, StraightTheorem, in_cell, in_block}

-- SIZE in the first word of a free block
free-long : {w : ℕ} (n : ℕ) → w ≡ 2 ^ 31 + n → n < 2 ^ 16 → w % 2 ^ 16 ≡ n
free-long n e l = omega (arith, e)

-- a free block ends where the blocks do or before, and the dummy, whose SIZE is 0, starts there
member-ends : (s : List ℕ) (a : ℕ) (p : Bool) (bs : List Block) (y : ℕ) → Walk s a p bs → over a bs < 2 ^ 16 → 0 < count y (over a bs ∷ frees a bs)
    → y + size_at s y ≤ over a bs
member-ends s a p [] y w l k = ⊎_elim (λ e. rw e.0 (omega (arith, walk-dummy s a p [] w))) (λ e. absurd (omega (arith, e, k))) (hit-cases y a)
member-ends s a p (free n ∷ bs) y w l k =
    ⊎_elim
    (λ e. rw e.0 (omega (arith, over-le (a + n) bs, free-long n w.0.first (omega (arith, l, over-le (a + n) bs)))))
    (λ e. member-ends s (a + n) true bs y w.1 l (omega (arith, e, k)))
    (hit-cases y a)
member-ends s a p (array z m ∷ bs) y w l k = member-ends s (a + (z + m)) false bs y w.1 l k

-- an array stands before a free block or the dummy, or behind all of it
member_apart : (s : List ℕ) (a : ℕ) (p : Bool) (bs : List Block) (y x z : ℕ) → Walk s a p bs → over a bs < 2 ^ 16
    → 0 < count y (over a bs ∷ frees a bs) → ArrayIn a bs x z → (x + z ≤ y) ⊎ ((y + 3 ≤ x) × (y + size_at s y ≤ x))
member_apart s a p [] y x z w l k h = elim h [ ]
member_apart s a p (free n ∷ bs) y x z w l k h =
    ⊎_elim
    (λ e. inr (rw e.0 (
      omega (arith, w.0.least, array-within s (a + n) true bs x z w.1 h),
      omega (arith, array-within s (a + n) true bs x z w.1 h, free-long n w.0.first (omega (arith, l, over-le (a + n) bs))),
    )))
    (λ e. member_apart s (a + n) true bs y x z w.1 l (omega (arith, e, k)) h)
    (hit-cases y a)
member_apart s a p (array v m ∷ bs) y x z w l k (inl h) = inl (omega (arith, h, reach s (a + (v + m)) false bs y w.1 k))
member_apart s a p (array v m ∷ bs) y x z w l k (inr h) = member_apart s (a + (v + m)) false bs y x z w.1 l k h

-- a request that a member of the ring serves leaves what a join may copy
module _ {s ws : List ℕ} (o : Owned s ws) (f : ℕ) (is : 0 < count f (over (blockptr s) o.blocks ∷ frees (blockptr s) o.blocks)) where
  abbrev end : ℕ
  end = over (blockptr s) o.blocks

  abbrev members : List ℕ
  members = end ∷ frees (blockptr s) o.blocks

  place : (8 ≤ blockptr s) × (end + 3 ≡ sbase s) × (sbase s ≤ length s) × (end < 2 ^ 16)
  place = omega (arith, o.heap.low, o.heap.top, o.heap.room, o.heap.short)

  ends : f + size_at s f ≤ end
  ends = member-ends s (blockptr s) false o.blocks f o.heap.walk place.3 is

  within : (y : ℕ) → 0 < count y members → (blockptr s ≤ y) × (y ≤ end)
  within y k = member-within o.heap y (omega (arith, k, o.heap.once y))

  -- NEXT and LAST lead to members
  turned : (u : List ℕ) × Links s f u f × ((x : ℕ) → count x (f ∷ u) ≡ count x (rover s ∷ o.ring))
  turned = ring-at s (rover s) o.ring f o.heap.links (omega (arith, is, o.heap.once f))

  next-in : 0 < count (next_at s f) members
  next-in = omega (arith, links-first s f turned.0 turned.1, turned.2 (next_at s f), o.heap.once (next_at s f))

  last-in : 0 < count (last_at s f) members
  last-in = omega (arith, links-last s f turned.0 f turned.1, turned.2 (last_at s f), o.heap.once (last_at s f))

  -- the elements of an array, which stand in its block behind the first word
  module _ (p : Part) (x z : ℕ) (u : ArrayIn (blockptr s) o.blocks x z) (low : x < p.start.0) (high : p.start.0 + p.count ≤ x + z) where
    member-off : (y : ℕ) → 0 < count y members → (x + z ≤ y) ⊎ ((y + 3 ≤ x) × (y + size_at s y ≤ x))
    member-off y k = member_apart s (blockptr s) false o.blocks y x z o.heap.walk place.3 k u

    link-off : (y : ℕ) → 0 < count y members → (p.start.0 + p.count ≤ y + 1) ⊎ (y + 1 < p.start.0)
    link-off y k = ⊎_elim (λ h. inl (omega (arith, h, high))) (λ h. inr (omega (arith, h.0, low))) (member-off y k)

    elements-kept : Kept s f p
    elements-kept = record {
      fits = omega (arith, high, array-place o x z u);
      rover = inr (omega (arith, low, array-place o x z u));
      block = ⊎_elim (λ h. inl (omega (arith, h, high))) (λ h. inr (omega (arith, h.1, low))) (member-off f is);
      next = link-off (next_at s f) next-in;
      last = link-off (last_at s f) last-in;
    }

  cell-kept : (p : Part) → IsCell s p → Kept s f p
  cell-kept p c = record {
    fits = omega (arith, c);
    rover = inr (omega (arith, c.above, place));
    block = inr (omega (arith, c.above, place, ends));
    next = inr (omega (arith, c.above, place, within (next_at s f) next-in));
    last = inr (omega (arith, c.above, place, within (last_at s f) last-in));
  }

  copyable-kept : (p : Part) → Copyable s o.blocks p → Kept s f p
  copyable-kept p (in_cell c) = cell-kept p c
  copyable-kept p (in_block x z u e) = elements-kept p x z u (omega (arith, e.starts)) (omega (arith, e, (o.inside x z u).sized))

  serves-straight : (first second : Part) → Copyable s o.blocks first → Copyable s o.blocks second → straight s f first second ≡ true
  serves-straight first second a b =
      straight-holds s f first second (omega (arith, ends, place)) (copyable-kept first a) (copyable-kept second b)

-- what the search finds is a member
found-member : {s : List ℕ} {bs : List Block} {t : List ℕ} (g : Heap s bs t) (size : ℕ) → find s size ≢ 0
    → 0 < count (find s size) (over (blockptr s) bs ∷ frees (blockptr s) bs)
found-member {s} g size n =
    ⊎_elim (λ e. absurd (n e.0)) (λ e. omega (arith, e.0, g.once (find s size))) (found-cases (find-is g size))

pub straight-theorem : StraightTheorem
straight-theorem = record {
  scalars = λ s g i p l start one. in_cell (record { above = omega (arith, l, start); within = omega (arith, l, start, g.fits); one = one });
  arrays = λ s g i x p l w small e. let n = g.own.named x small (rw w at (operand-owner s i l)) in in_block x n.0 n.1 e;
  copied = λ s g size first second a b n. serves-straight g.own (find s size) (found-member g.own.heap size n) first second a b;
}
