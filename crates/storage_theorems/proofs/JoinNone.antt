-- A release that joins no block keeps the heap.
use Prim.Native.Nat.{ℕ, ◌+◌, ◌-◌, ◌*◌, ◌/◌, ◌%◌, ◌^◌, ◌<◌, ◌≤◌}
use mathlib.Core.Path.{◌≡◌, refl, sym, subst, ◌∙◌, ap}
use mathlib.Core.Bool.{Bool, false}
use mathlib.Core.List.{List, ◌∷◌, ◌++◌}
use mathlib.Core.Logic.{◌≢◌, ◌⊎◌, inl, inr, ⊎_elim}
use native.Mathlib.Omega.{arith}
use lib.ListN.{get_or, length}
use Rattle.segment.specs.State.{sbase, rover, blockptr}
use Rattle.segment.specs.Blocks.{free_at, prev_free_at, next_at, dummy}
use Rattle.storage.specs.Ring.{set_prev_free, mark_free, hook}
use Rattle.storage.specs.Release.{join_none}
use Rattle.storage.specs.Heap.{Block, Walk, over, frees, hit, count, Links, Heap, free, array}
use Rattle.storage_theorems.specs.Words.{Inner, Quiet, Leaves}
use Rattle.storage_theorems.proofs.Walks.{over-le, walk-replace, walk_at}
use Rattle.storage_theorems.proofs.Counts.{order, hit-cases, hit_same, frees-count, over-append, frees-within, frees-either}
use Rattle.storage_theorems.proofs.Ring.{links-same, ring-at, links-first}
use Rattle.storage_theorems.proofs.Search.{members-once}
use Rattle.storage_theorems.proofs.Fields.{set_prev_free-length, set_prev_free-other, set_prev_free-same, mark_free-length, mark_free-other, mark_free-first, mark_free-end}
use Rattle.storage_theorems.proofs.Inner.{inner-cases, inner-apart, inner-swap, inner-here}
use Rattle.storage_theorems.proofs.Heaps.{walk-mark, heap-make, not-prev}
use Rattle.storage_theorems.proofs.Hook.{hook-length, hook-other, hook-walk, insert-ring, insert-is}

module _ {s : List ℕ} {t : List ℕ} (xs : List Block) (z k : ℕ) (ys : List Block) (g : Heap s (xs ++ array z k ∷ ys) t)
    (before : prev_free_at s (over (blockptr s) xs) ≡ false) (behind : free_at s (over (blockptr s) xs + (z + k)) ≡ false) where
  abbrev a : ℕ
  a = over (blockptr s) xs

  abbrev old : List Block
  old = xs ++ array z k ∷ ys

  abbrev new : List Block
  new = xs ++ free (z + k) ∷ ys

  abbrev end : ℕ
  end = over (blockptr s) old

  abbrev ring : List ℕ
  ring = end ∷ frees (blockptr s) old

  abbrev next : ℕ
  next = next_at s end

  abbrev s1 : List ℕ
  s1 = hook s a (next * 2 ^ 16 + end) end next

  abbrev after : List ℕ
  after = set_prev_free (mark_free s1 a (z + k)) (a + (z + k))

  at : (q : Bool) × Walk s a q (array z k ∷ ys)
  at = walk_at s (blockptr s) false xs (array z k ∷ ys) g.walk

  place : (8 ≤ blockptr s) × (blockptr s ≤ a) × (3 ≤ z) × (a + (z + k) ≤ end) × (end + 3 ≤ length s) × (length s ≤ 16384)
  place = (
    g.low,
    over-le (blockptr s) xs,
    at.1.0.least,
    omega (arith, over-append (blockptr s) xs (array z k ∷ ys), over-le (a + (z + k)) ys),
    omega (arith, g.top, g.room),
    g.short,
  )

  -- a member of the ring stands clear of the released block
  far : (x : ℕ) → 0 < count x ring
      → (a ≢ x) × (x + 1 ≢ a) × (x + 1 ≢ a + (z + k) - 1) × (x + 1 ≢ a + (z + k)) × (blockptr s ≤ x) × (x ≤ end)
  far x c =
      ⊎_elim (λ e. omega (arith, place, e))
      (λ e. ⊎_elim (λ l. omega (arith, place, l))
      (λ l. omega (arith, place, over-append (blockptr s) xs (array z k ∷ ys), frees-within s (a + (z + k)) false ys x at.1.1 l))
      (frees-either s (blockptr s) false xs (array z k ∷ ys) x g.walk (omega (arith, c, e))))
      (hit-cases x end)

  -- the ring from the dummy
  turned : (u : List ℕ) × Links s end u end × ((x : ℕ) → count x (end ∷ u) ≡ count x ring)
  turned = let r = ring-at s (rover s) t end g.links (omega (arith, g.once end, hit_same end)) in (r.0, r.1, λ x. r.2 x ∙ g.once x)

  next-in : 0 < count next ring
  next-in = omega (arith, turned.2 next, links-first s end turned.0 turned.1)

  walk1 : Walk s1 (blockptr s) false old
  walk1 =
      hook-walk s a _ end next (blockptr s) false old g.walk (inner-here (blockptr s) xs z k ys (a + 1) (omega arith) (omega (arith, place)))
      (omega (arith, hit_same end)) next-in

  s1-length : length s1 ≡ length s
  s1-length = hook-length s a _ end next

  after-other : (i : ℕ) → (i ≢ a) × (i ≢ a + (z + k) - 1) × (i ≢ a + (z + k)) → get_or after i 0 ≡ get_or s1 i 0
  after-other i h = set_prev_free-other _ _ i h.2 ∙ mark_free-other s1 _ _ i (h.0, h.1)

  s1-tag : (i : ℕ) → (i ≡ a) ⊎ ((i ≡ a + (z + k)) ⊎ (i < 8)) → get_or s1 i 0 ≡ get_or s i 0
  s1-tag i (inl e) = hook-other s a _ end next i (omega (arith, e, place, far next next-in))
  s1-tag i (inr (inl e)) = hook-other s a _ end next i (omega (arith, e, place, far next next-in))
  s1-tag i (inr (inr e)) = hook-other s a _ end next i (omega (arith, e, place, far next next-in))

  after-walk : Walk after (blockptr s) false new
  after-walk =
      walk-replace s1 after (blockptr s) false xs (array z k ∷ ys) (free (z + k) ∷ ys) walk1
      (λ i l u. after-other i (omega (arith, place)))
      (λ q w. (
        record {
          alone = not-prev q w.0 (omega (arith, place)) (rw (s1-tag a (inl refl)) before);
          least = omega (arith, place);
          first = set_prev_free-other _ _ _ (omega (arith, place)) ∙ mark_free-first s1 _ _ (omega (arith, place)) (omega (arith, place, s1-length));
          end = set_prev_free-other _ _ _ (omega (arith, place)) ∙ mark_free-end s1 _ _ (omega (arith, place)) (omega (arith, place, s1-length));
        },
        walk-mark s1 after (a + (z + k)) ys w.1 (rw (s1-tag (a + (z + k)) (inr (inl refl))) behind) (λ i l u. after-other i (omega (arith, place)))
            (set_prev_free-same _ _ (omega (arith, place, mark_free-length s1 a (z + k), s1-length))
            ∙ ap (λ (v : ℕ). v % 2 ^ 30 + 2 ^ 30) (mark_free-other s1 _ _ _ (omega (arith, place))))
            (omega (arith, place, over-append (blockptr s) xs (array z k ∷ ys))),
      ))

  after-low : (i : ℕ) → i < 8 → get_or after i 0 ≡ get_or s i 0
  after-low i l = after-other i (omega (arith, place)) ∙ s1-tag i (inr (inr l))

  after-count : (x : ℕ) → count x (frees (blockptr s) new) ≡ hit x a + count x (frees (blockptr s) old)
  after-count x = omega (arith, frees-count x (blockptr s) xs (free (z + k) ∷ ys), frees-count x (blockptr s) xs (array z k ∷ ys))

  -- the ring from the dummy, with the block right behind it
  module _ (u : List ℕ) (h : Links s end u end) (c : (x : ℕ) → count x (end ∷ u) ≡ count x ring) where
    ring1 : Links s1 end (a ∷ u) end
    ring1 =
        insert-ring s a (next * 2 ^ 16 + end) end next u h (λ x. omega (arith, c x, members-once g x))
        (λ x k. let f = far x (omega (arith, k, c x)) in (omega (arith, place, f), f.0))
        (omega (arith, place)) (omega (arith, place)) refl (omega (arith, place)) (omega (arith, place))

    member-same : (x : ℕ) → 0 < count x (end ∷ a ∷ u) → get_or after (x + 1) 0 ≡ get_or s1 (x + 1) 0
    member-same x k =
        ⊎_elim (λ e. after-other (x + 1) (omega (arith, place, e)))
        (λ e. after-other (x + 1) (omega (arith, place, far x (omega (arith, k, e, c x))))) (hit-cases x a)

    linked : Links after end (a ∷ u) end
    linked = links-same s1 after end (a ∷ u) end ring1 member-same (member-same end (omega (arith, hit_same end)))

  above : (i : ℕ) → end + 2 ≤ i → get_or after i 0 ≡ get_or s i 0
  above i h = after-other i (omega (arith, place)) ∙ hook-other s a _ end next i (omega (arith, place, far next next-in))

  same-rover : rover after ≡ rover s
  same-rover = ap (λ (w : ℕ). w % 2 ^ 16) (after-low 1 (omega arith))

  made : (t' : List ℕ) × Heap after new t'
  made =
      heap-make g after new (set_prev_free-length _ _ ∙ mark_free-length s1 _ _ ∙ s1-length) (after-low 0 (omega arith)) (after-low 4 (omega arith))
      (above (sbase s - 1) (omega (arith, g.top))) after-walk
      (over-append (blockptr s) xs (free (z + k) ∷ ys) ∙ sym (over-append (blockptr s) xs (array z k ∷ ys)))
      end (a ∷ turned.0)
      (linked turned.0 turned.1 turned.2)
      (λ x. omega (arith, turned.2 x, after-count x))
      (rover s) same-rover (omega (arith, g.once (rover s), hit_same (rover s), after-count (rover s)))

  pub none-heap : (t' : List ℕ) × Heap (join_none s a (z + k) (a + (z + k))) new t'
  unfolding join_none
  none-heap = let e : dummy s ≡ end = omega (arith, g.top) in rw (insert-is s a end e) made

  pub none-links : (u : List ℕ) → Links s end u end → ((x : ℕ) → count x (end ∷ u) ≡ count x ring)
      → Links (join_none s a (z + k) (a + (z + k))) end (a ∷ u) end
  unfolding join_none
  none-links u h c =
      let e : dummy s ≡ end = omega (arith, g.top) in
      subst (λ (w : List ℕ). Links (set_prev_free (mark_free w a (z + k)) (a + (z + k))) end (a ∷ u) end) (sym (insert-is s a end e)) (linked u h c)

  pub none-rover : rover (join_none s a (z + k) (a + (z + k))) ≡ rover s
  unfolding join_none
  none-rover = let e : dummy s ≡ end = omega (arith, g.top) in rw (insert-is s a end e) same-rover

  -- the block was not in the ring
  pub none_apart : count a ring ≡ 0
  none_apart = ⊎_elim (λ l. omega (arith, l)) (λ l. absurd ((far a l).0 refl)) (order (count a ring) 0)

  was : (i : ℕ) → Inner (blockptr s) new i → Inner (blockptr s) old i
  was i h = inner-swap (blockptr s) xs (free (z + k) ∷ ys) (array z k ∷ ys) i (λ q. inr q) h

  quiet_same : (i : ℕ) → i ≢ 1 → Quiet s new i → get_or after i 0 ≡ get_or s i 0
  quiet_same i n (inl h) = after-other i (omega (arith, place, h)) ∙ hook-other s a _ end next i (omega (arith, place, h, far next next-in))
  quiet_same i n (inr (inl h)) = above i (omega (arith, g.top))
  quiet_same i n (inr (inr h)) =
      ⊎_elim (λ l. after-other i (omega (arith, place, l)) ∙ hook-other s a _ end next i (omega (arith, place, l), ends, nexts))
      (λ l. after-other i (omega (arith, place, l)) ∙ hook-other s a _ end next i (omega (arith, place, l), ends, nexts))
      (inner-cases (blockptr s) xs (z + k) ys i h)
    where
      ends : i ≢ end + 1
      ends = inner-apart s (blockptr s) false old end i g.walk (was i h) (omega (arith, hit_same end))

      nexts : i ≢ next + 1
      nexts = inner-apart s (blockptr s) false old next i g.walk (was i h) next-in

  left : Leaves s after new
  left =
      record {
        long = set_prev_free-length _ _ ∙ mark_free-length s1 _ _ ∙ s1-length;
        base = ap (λ (w : ℕ). w / 2 ^ 16) (after-low 1 (omega arith));
        quiet = quiet_same;
      }

  pub none-leaves : Leaves s (join_none s a (z + k) (a + (z + k))) new
  unfolding join_none
  none-leaves = let e : dummy s ≡ end = omega (arith, g.top) in rw (insert-is s a end e) left
