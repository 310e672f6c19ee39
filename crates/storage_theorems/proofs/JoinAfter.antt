-- A release that joins the free block after the array keeps the heap.
use Prim.Native.Nat.{ℕ, ◌+◌, ◌-◌, ◌<◌, ◌≤◌}
use mathlib.Core.Path.{◌≡◌, refl, sym, subst, ◌∙◌, ap}
use mathlib.Core.Bool.{Bool, true, false}
use mathlib.Core.List.{List, ◌∷◌, ◌++◌}
use mathlib.Core.Logic.{◌≢◌, ◌⊎◌, inl, inr, ⊎_elim}
use native.Mathlib.Omega.{arith}
use lib.ListN.{get_or, length}
use Rattle.segment.specs.State.{sbase, rover, blockptr}
use Rattle.segment.specs.Blocks.{prev_free_at, size_at, next_at, last_at}
use Rattle.storage.specs.Ring.{hook, relink}
use Rattle.storage.specs.Release.{join_after}
use Rattle.storage.specs.Heap.{Block, Walk, over, frees, hit, count, Links, Heap, free, array}
use Rattle.storage_theorems.specs.Words.{Inner, Quiet, Leaves}
use Rattle.storage_theorems.proofs.Walks.{over-le, walk_same, walk-replace, walk_at}
use Rattle.storage_theorems.proofs.Counts.{order, hit-cases, hit_same, hit-eq, hit-not, frees-count, over-append, frees-within, frees-either}
use Rattle.storage_theorems.proofs.Ring.{links-same, links-last}
use Rattle.storage_theorems.proofs.Search.{members-once, free-ring}
use Rattle.storage_theorems.proofs.Merge.{merged, merged-length, merged-other, merged-first, merged-end, merged-base, merged-moves, merged-rover}
use Rattle.storage_theorems.proofs.Inner.{inner-cases, inner-apart, inner-swap, inner-here}
use Rattle.storage_theorems.proofs.Heaps.{heap-make, member-is, not-prev}
use Rattle.storage_theorems.proofs.Hook.{hook-length, hook-other, hook-walk, relink-ring}

module _ {s : List ℕ} {t : List ℕ} (xs : List Block) (z k m : ℕ) (ys : List Block) (g : Heap s (xs ++ array z k ∷ free m ∷ ys) t)
    (before : prev_free_at s (over (blockptr s) xs) ≡ false) where
  abbrev a : ℕ
  a = over (blockptr s) xs

  abbrev q : ℕ
  q = a + (z + k)

  abbrev old : List Block
  old = xs ++ array z k ∷ free m ∷ ys

  abbrev new : List Block
  new = xs ++ free (z + k + m) ∷ ys

  abbrev end : ℕ
  end = over (blockptr s) old

  abbrev ring : List ℕ
  ring = end ∷ frees (blockptr s) old

  abbrev s1 : List ℕ
  s1 = hook s a (get_or s (q + 1) 0) (last_at s q) (next_at s q)

  abbrev after : List ℕ
  after = merged s1 a (z + k + m) q

  at : (p : Bool) × Walk s a p (array z k ∷ free m ∷ ys)
  at = walk_at s (blockptr s) false xs (array z k ∷ free m ∷ ys) g.walk

  place : (8 ≤ blockptr s) × (blockptr s ≤ a) × (3 ≤ z) × (3 ≤ m) × (q + m ≤ end) × (end + 3 ≤ length s) × (length s ≤ 16384)
  place = (
    g.low,
    over-le (blockptr s) xs,
    at.1.0.least,
    at.1.1.0.least,
    omega (arith, over-append (blockptr s) xs (array z k ∷ free m ∷ ys), over-le (q + m) ys),
    omega (arith, g.top, g.room),
    g.short,
  )

  fits : (8 ≤ a) × (3 ≤ z + k + m) × (a + (z + k + m) ≤ length s) × (length s ≤ 16384)
  fits = omega (arith, place)

  q-in : 0 < count q (frees (blockptr s) old)
  q-in = omega (arith, hit_same q, frees-count q (blockptr s) xs (array z k ∷ free m ∷ ys))

  -- a member of the ring but `q` stands clear of both blocks
  far : (x : ℕ) → 0 < count x ring → x ≢ q
      → (a ≢ x) × (x + 1 ≢ a) × (x + 1 ≢ a + (z + k + m) - 1) × (blockptr s ≤ x) × (x ≤ end)
  far x c n =
      ⊎_elim (λ e. omega (arith, place, e))
      (λ e. ⊎_elim (λ l. omega (arith, place, l))
      (λ l. ⊎_elim (λ o. absurd (n o.0))
      (λ o. omega (
        arith,
        place,
        over-append (blockptr s) xs (array z k ∷ free m ∷ ys),
        frees-within s (q + m) true ys x at.1.1.1 (omega (arith, l, o)),
      ))
      (hit-cases x q))
      (frees-either s (blockptr s) false xs (array z k ∷ free m ∷ ys) x g.walk (omega (arith, c, e))))
      (hit-cases x end)

  -- the ring from `q`
  turned : (b : ℕ) × (vs : List ℕ) × Links s q (b ∷ vs) q × ((x : ℕ) → count x (q ∷ b ∷ vs) ≡ count x ring)
  turned = free-ring g q q-in

  module _ (b : ℕ) (vs : List ℕ) (h : Links s q (b ∷ vs) q) (c : (x : ℕ) → count x (q ∷ b ∷ vs) ≡ count x ring) where
    others : (x : ℕ) → 0 < count x (b ∷ vs) → (a ≢ x) × (x + 1 ≢ a) × (x + 1 ≢ a + (z + k + m) - 1) × (blockptr s ≤ x) × (x ≤ end)
    others x w = far x (omega (arith, w, c x)) (λ e. omega (arith, w, c x, members-once g x, hit-eq x q e))

    next-in : 0 < count (next_at s q) (b ∷ vs)
    next-in = omega (arith, hit-eq (next_at s q) b h.0.next)

    last-in : 0 < count (last_at s q) (b ∷ vs)
    last-in = links-last s b vs q h.1

    ring1 : Links s1 a (b ∷ vs) a
    ring1 =
        subst (λ (y : ℕ). Links (hook s a (get_or s (q + 1) 0) (last_at s q) y) a (b ∷ vs) a) (sym h.0.next)
        (relink-ring s a (get_or s (q + 1) 0) q b (last_at s q) vs h (λ x. omega (arith, c x, members-once g x))
        (λ x w. let f = others x w in (omega (arith, place, f), f.0)) (omega (arith, place)) (omega (arith, place)) h.0.next refl refl)

    walk1 : Walk s1 (blockptr s) false old
    walk1 =
        hook-walk s a _ (last_at s q) (next_at s q) (blockptr s) false old g.walk
        (inner-here (blockptr s) xs z k (free m ∷ ys) (a + 1) (omega arith) (omega (arith, place)))
        (omega (arith, last-in, c (last_at s q))) (omega (arith, next-in, c (next_at s q)))

    s1-length : length s1 ≡ length s
    s1-length = hook-length s a _ _ _

    s1-tag : (i : ℕ) → (i ≡ a) ⊎ (i < 8) → get_or s1 i 0 ≡ get_or s i 0
    s1-tag i (inl e) = hook-other s a _ _ _ i (omega (arith, e, (others (last_at s q) last-in).1, (others (next_at s q) next-in).1))
    s1-tag i (inr e) = hook-other s a _ _ _ i (omega (arith, e, place, (others (last_at s q) last-in).3, (others (next_at s q) next-in).3))

    after-other : (i : ℕ) → (i ≢ 1) × (i ≢ a) × (i ≢ a + (z + k + m) - 1) → get_or after i 0 ≡ get_or s1 i 0
    after-other = merged-other s s1 a (z + k + m) q s1-length fits

    after-walk : Walk after (blockptr s) false new
    after-walk =
        walk-replace s1 after (blockptr s) false xs (array z k ∷ free m ∷ ys) (free (z + k + m) ∷ ys) walk1
        (λ i l u. after-other i (omega (arith, place)))
        (λ p w. (
          record {
            alone = not-prev p w.0 (omega (arith, place)) (rw (s1-tag a (inl refl)) before);
            least = omega (arith, place);
            first = merged-first s s1 a (z + k + m) q s1-length fits;
            end = merged-end s s1 a (z + k + m) q s1-length fits;
          },
          let e : a + (z + k + m) ≡ q + m = omega arith in
              rw e (walk_same s1 after (q + m) true ys w.1.1 (λ i l u. after-other i (omega (arith, place)))),
        ))

    after-low : (i : ℕ) → i ≢ 1 → i < 8 → get_or after i 0 ≡ get_or s i 0
    after-low i n l = after-other i (omega (arith, place)) ∙ s1-tag i (inr l)

    after-count : (x : ℕ) → count x (frees (blockptr s) new) + hit x q ≡ count x (frees (blockptr s) old) + hit x a
    after-count x =
        let e : a + (z + k + m) ≡ q + m = omega arith in
        omega (
          arith,
          frees-count x (blockptr s) xs (free (z + k + m) ∷ ys),
          ap (λ (y : ℕ). count x (frees y ys)) e,
          frees-count x (blockptr s) xs (array z k ∷ free m ∷ ys),
        )

    member-same : (x : ℕ) → 0 < count x (a ∷ b ∷ vs) → get_or after (x + 1) 0 ≡ get_or s1 (x + 1) 0
    member-same x w =
        ⊎_elim (λ e. after-other (x + 1) (omega (arith, place, e))) (λ e. after-other (x + 1) (omega (arith, place, others x (omega (arith, w, e)))))
        (hit-cases x a)

    rover-in : 0 < count (rover after) (end ∷ frees (blockptr s) new)
    rover-in =
        ⊎_elim (λ e. omega (arith, after-count (rover after), hit-eq (rover after) a e, far-q (rover after) e))
        (λ e. member-is (end ∷ frees (blockptr s) new) e.1 (omega (arith, after-count (rover s), g.once (rover s), hit_same (rover s), hit-not (rover s) q e.0)))
        (merged-rover s s1 a (z + k + m) q s1-length fits (s1-tag 1 (inr (omega arith))))
      where
        far-q : (x : ℕ) → x ≡ a → hit x q ≡ 0
        far-q x e = hit-not x q (omega (arith, place, e))

    above : (i : ℕ) → end + 2 ≤ i → get_or after i 0 ≡ get_or s i 0
    above i l =
        after-other i (omega (arith, place)) ∙ hook-other s a _ _ _ i
        (omega (arith, place, (others (last_at s q) last-in).4, (others (next_at s q) next-in).4))

    -- the ring with the merged block in the place of the later one
    linked : Links after a (b ∷ vs) a
    linked = links-same s1 after a (b ∷ vs) a ring1 member-same (member-same a (omega (arith, hit_same a)))

    moves : (rover s ≡ q → rover after ≡ a) × (rover s ≢ q → rover after ≡ rover s)
    moves = merged-moves s s1 a (z + k + m) q s1-length fits (s1-tag 1 (inr (omega arith)))

    made : (t' : List ℕ) × Heap after new t'
    made =
        let e : a + (z + k + m) ≡ q + m = omega arith in
        heap-make g after new (merged-length s s1 a (z + k + m) q s1-length fits) (after-low 0 (omega arith) (omega arith))
        (after-low 4 (omega arith) (omega arith)) (above (sbase s - 1) (omega (arith, g.top))) after-walk
        (over-append (blockptr s) xs (free (z + k + m) ∷ ys) ∙ ap (λ (y : ℕ). over y ys) e ∙ sym
        (over-append (blockptr s) xs (array z k ∷ free m ∷ ys)))
        a (b ∷ vs)
        linked
        (λ x. omega (arith, c x, after-count x))
        (rover after) refl rover-in

    was : (i : ℕ) → Inner (blockptr s) new i → Inner (blockptr s) old i
    was i w =
        inner-swap (blockptr s) xs (free (z + k + m) ∷ ys) (array z k ∷ free m ∷ ys) i
        (λ o. let e : a + (z + k) + m ≡ a + (z + k + m) = omega arith in inr (rw e o)) w

    quiet_same : (i : ℕ) → i ≢ 1 → Quiet s new i → get_or after i 0 ≡ get_or s i 0
    quiet_same i n (inl w) =
        after-other i (omega (arith, place, w)) ∙ hook-other s a _ _ _ i
        (omega (arith, place, w, (others (last_at s q) last-in).3, (others (next_at s q) next-in).3))
    quiet_same i n (inr (inl w)) = above i (omega (arith, g.top))
    quiet_same i n (inr (inr w)) =
        ⊎_elim (λ l. after-other i (omega (arith, place, l)) ∙ hook-other s a _ _ _ i (omega (arith, place, l), lasts, nexts))
        (λ l. after-other i (omega (arith, place, l)) ∙ hook-other s a _ _ _ i (omega (arith, place, l), lasts, nexts))
        (inner-cases (blockptr s) xs (z + k + m) ys i w)
      where
        lasts : i ≢ last_at s q + 1
        lasts = inner-apart s (blockptr s) false old (last_at s q) i g.walk (was i w) (omega (arith, last-in, c (last_at s q)))

        nexts : i ≢ next_at s q + 1
        nexts = inner-apart s (blockptr s) false old (next_at s q) i g.walk (was i w) (omega (arith, next-in, c (next_at s q)))

    left : Leaves s after new
    left = record {
      long = merged-length s s1 a (z + k + m) q s1-length fits;
      base = merged-base s s1 a (z + k + m) q s1-length fits (s1-tag 1 (inr (omega arith)));
      quiet = quiet_same;
    }

  size-q : size_at s q ≡ m
  size-q = omega (arith, place, at.1.1.0.first)

  pub after-heap : (t' : List ℕ) × Heap (join_after s a (z + k) q) new t'
  unfolding join_after relink
  after-heap = rw size-q (made turned.0 turned.1 turned.2 turned.3)

  pub after-links : (b : ℕ) (vs : List ℕ) → Links s q (b ∷ vs) q → ((x : ℕ) → count x (q ∷ b ∷ vs) ≡ count x ring)
      → Links (join_after s a (z + k) q) a (b ∷ vs) a
  unfolding join_after relink
  after-links b vs h c = subst (λ (n : ℕ). Links (merged s1 a (z + k + n) q) a (b ∷ vs) a) (sym size-q) (linked b vs h c)

  pub after-moves : (rover s ≡ q → rover (join_after s a (z + k) q) ≡ a) × (rover s ≢ q → rover (join_after s a (z + k) q) ≡ rover s)
  unfolding join_after relink
  after-moves = rw size-q (moves turned.0 turned.1 turned.2 turned.3)

  -- the array was not in the ring
  pub after-apart : count a ring ≡ 0
  after-apart = ⊎_elim (λ l. omega (arith, l)) (λ l. absurd ((far a l (omega (arith, place))).0 refl)) (order (count a ring) 0)

  pub after-leaves : Leaves s (join_after s a (z + k) q) new
  unfolding join_after relink
  after-leaves = rw size-q (left turned.0 turned.1 turned.2 turned.3)
