-- A release that joins the free blocks on both sides keeps the heap.
use Prim.Native.Nat.{ℕ, ◌+◌, ◌-◌, ◌<◌, ◌≤◌}
use mathlib.Core.Path.{◌≡◌, refl, sym, ◌∙◌, ap}
use mathlib.Core.Bool.{Bool, true, false}
use mathlib.Core.List.{List, ◌∷◌, ◌++◌}
use mathlib.Core.Logic.{◌≢◌, inl, inr, ⊎_elim}
use native.Mathlib.Omega.{arith}
use lib.ListN.{get_or, length}
use Rattle.segment.specs.State.{sbase, rover, blockptr}
use Rattle.segment.specs.Blocks.{size_at, next_at, last_at}
use Rattle.storage.specs.Ring.{unlink}
use Rattle.storage.specs.Release.{join_both}
use Rattle.storage.specs.Heap.{Block, Walk, over, frees, hit, count, Links, Heap, free, array}
use Rattle.storage.proofs.Written.{unlink-length, unlink-other}
use Rattle.storage_theorems.specs.Words.{Inner, Quiet, Leaves}
use Rattle.storage_theorems.proofs.Walks.{over-le, walk_same, walk-replace, walk_at}
use Rattle.storage_theorems.proofs.Counts.{hit-cases, hit_same, hit-eq, hit-not, frees-count, over-append, frees-within, frees-either}
use Rattle.storage_theorems.proofs.Ring.{links-same, links-last}
use Rattle.storage_theorems.proofs.Search.{members-once, free-ring}
use Rattle.storage_theorems.proofs.Merge.{merged, merged-length, merged-other, merged-first, merged-end, merged-base, merged-moves, merged-rover}
use Rattle.storage_theorems.proofs.Inner.{inner-cases, inner-apart, inner-swap}
use Rattle.storage_theorems.proofs.Heaps.{heap-make, member-is}
use Rattle.storage_theorems.proofs.Unlink.{unlink-ring, unlink-walk}

module _ {s : List ℕ} {t : List ℕ} (xs : List Block) (j z k m : ℕ) (ys : List Block) (g : Heap s (xs ++ free j ∷ array z k ∷ free m ∷ ys) t) where
  abbrev p : ℕ
  p = over (blockptr s) xs

  abbrev q : ℕ
  q = p + j + (z + k)

  abbrev tail : List Block
  tail = free j ∷ array z k ∷ free m ∷ ys

  abbrev old : List Block
  old = xs ++ tail

  abbrev new : List Block
  new = xs ++ free (j + (z + k) + m) ∷ ys

  abbrev end : ℕ
  end = over (blockptr s) old

  abbrev ring : List ℕ
  ring = end ∷ frees (blockptr s) old

  abbrev after : List ℕ
  after = merged (unlink s q) p (j + (z + k) + m) q

  at : (o : Bool) × Walk s p o tail
  at = walk_at s (blockptr s) false xs tail g.walk

  place : (8 ≤ blockptr s) × (blockptr s ≤ p) × (3 ≤ j) × (3 ≤ z) × (3 ≤ m) × (q + m ≤ end) × (end + 3 ≤ length s) × (length s ≤ 16384)
  place = (
    g.low,
    over-le (blockptr s) xs,
    at.1.0.least,
    at.1.1.0.least,
    at.1.1.1.0.least,
    omega (arith, over-append (blockptr s) xs tail, over-le (q + m) ys),
    omega (arith, g.top, g.room),
    g.short,
  )

  fits : (8 ≤ p) × (3 ≤ j + (z + k) + m) × (p + (j + (z + k) + m) ≤ length s) × (length s ≤ 16384)
  fits = omega (arith, place)

  q-in : 0 < count q (frees (blockptr s) old)
  q-in = omega (arith, hit_same q, frees-count q (blockptr s) xs tail)

  far : (x : ℕ) → 0 < count x ring → x ≢ q → (x + 1 ≢ p) × (x + 1 ≢ p + (j + (z + k) + m) - 1) × (blockptr s ≤ x) × (x ≤ end)
  far x c n =
      ⊎_elim (λ e. omega (arith, place, e))
      (λ e. ⊎_elim (λ l. omega (arith, place, l))
      (λ l. ⊎_elim (λ o. omega (arith, place, o))
      (λ w. ⊎_elim (λ o. absurd (n o.0))
      (λ o. omega (arith, place, over-append (blockptr s) xs tail, frees-within s (q + m) true ys x at.1.1.1.1 (omega (arith, l, o, w))))
      (hit-cases x q))
      (hit-cases x p))
      (frees-either s (blockptr s) false xs tail x g.walk (omega (arith, c, e))))
      (hit-cases x end)

  turned : (b : ℕ) × (vs : List ℕ) × Links s q (b ∷ vs) q × ((x : ℕ) → count x (q ∷ b ∷ vs) ≡ count x ring)
  turned = free-ring g q q-in

  module _ (b : ℕ) (vs : List ℕ) (h : Links s q (b ∷ vs) q) (c : (x : ℕ) → count x (q ∷ b ∷ vs) ≡ count x ring) where
    others : (x : ℕ) → 0 < count x (b ∷ vs) → (x + 1 ≢ p) × (x + 1 ≢ p + (j + (z + k) + m) - 1) × (blockptr s ≤ x) × (x ≤ end)
    others x w = far x (omega (arith, w, c x)) (λ e. omega (arith, w, c x, members-once g x, hit-eq x q e))

    next-in : 0 < count (next_at s q) (b ∷ vs)
    next-in = omega (arith, hit-eq (next_at s q) b h.0.next)

    last-in : 0 < count (last_at s q) (b ∷ vs)
    last-in = links-last s b vs q h.1

    ring1 : Links (unlink s q) b vs b
    ring1 = unlink-ring s q b vs h (λ x. omega (arith, c x, members-once g x)) (λ x w. omega (arith, place, others x w))

    walk1 : Walk (unlink s q) (blockptr s) false old
    walk1 = unlink-walk s q (blockptr s) false old g.walk (omega (arith, last-in, c (last_at s q))) (omega (arith, next-in, c (next_at s q)))

    after-other : (i : ℕ) → (i ≢ 1) × (i ≢ p) × (i ≢ p + (j + (z + k) + m) - 1) → get_or after i 0 ≡ get_or (unlink s q) i 0
    after-other = merged-other s (unlink s q) p (j + (z + k) + m) q (unlink-length s q) fits

    after-walk : Walk after (blockptr s) false new
    after-walk =
        walk-replace (unlink s q) after (blockptr s) false xs tail (free (j + (z + k) + m) ∷ ys) walk1
        (λ i l u. after-other i (omega (arith, place)))
        (λ o w. (
          record {
            alone = w.0.alone;
            least = omega (arith, place);
            first = merged-first s (unlink s q) p (j + (z + k) + m) q (unlink-length s q) fits;
            end = merged-end s (unlink s q) p (j + (z + k) + m) q (unlink-length s q) fits;
          },
          let e : p + (j + (z + k) + m) ≡ q + m = omega arith in
              rw e (walk_same (unlink s q) after (q + m) true ys w.1.1.1 (λ i l u. after-other i (omega (arith, place)))),
        ))

    low : (i : ℕ) → i < 8 → get_or (unlink s q) i 0 ≡ get_or s i 0
    low i l = unlink-other s q i (omega (arith, l, place, others (last_at s q) last-in, others (next_at s q) next-in))

    after-low : (i : ℕ) → i ≢ 1 → i < 8 → get_or after i 0 ≡ get_or s i 0
    after-low i n l = after-other i (omega (arith, place)) ∙ low i l

    after-count : (x : ℕ) → count x (frees (blockptr s) new) + hit x q ≡ count x (frees (blockptr s) old)
    after-count x =
        let e : p + (j + (z + k) + m) ≡ q + m = omega arith in
        omega (
          arith,
          frees-count x (blockptr s) xs (free (j + (z + k) + m) ∷ ys),
          ap (λ (y : ℕ). count x (frees y ys)) e,
          frees-count x (blockptr s) xs tail,
        )

    member-same : (x : ℕ) → 0 < count x (b ∷ vs) → get_or after (x + 1) 0 ≡ get_or (unlink s q) (x + 1) 0
    member-same x w = after-other (x + 1) (omega (arith, place, others x w))

    p-in : 0 < count p (frees (blockptr s) new)
    p-in = omega (arith, hit_same p, frees-count p (blockptr s) xs (free (j + (z + k) + m) ∷ ys))

    rover-in : 0 < count (rover after) (end ∷ frees (blockptr s) new)
    rover-in =
        ⊎_elim (λ e. member-is (end ∷ frees (blockptr s) new) e (omega (arith, p-in)))
        (λ e. member-is (end ∷ frees (blockptr s) new) e.1 (omega (arith, after-count (rover s), g.once (rover s), hit_same (rover s), hit-not (rover s) q e.0)))
        (merged-rover s (unlink s q) p (j + (z + k) + m) q (unlink-length s q) fits (low 1 (omega arith)))

    above : (i : ℕ) → end + 2 ≤ i → get_or after i 0 ≡ get_or s i 0
    above i l =
        after-other i (omega (arith, place)) ∙ unlink-other s q i
        (omega (arith, place, (others (last_at s q) last-in).3, (others (next_at s q) next-in).3))

    -- the ring without the later block
    linked : Links after b vs b
    linked = links-same (unlink s q) after b vs b ring1 member-same (member-same b (omega (arith, hit_same b)))

    moves : (rover s ≡ q → rover after ≡ p) × (rover s ≢ q → rover after ≡ rover s)
    moves = merged-moves s (unlink s q) p (j + (z + k) + m) q (unlink-length s q) fits (low 1 (omega arith))

    made : (t' : List ℕ) × Heap after new t'
    made =
        let e : p + (j + (z + k) + m) ≡ q + m = omega arith in
        heap-make g after new (merged-length s (unlink s q) p (j + (z + k) + m) q (unlink-length s q) fits)
        (after-low 0 (omega arith) (omega arith)) (after-low 4 (omega arith) (omega arith)) (above (sbase s - 1) (omega (arith, g.top))) after-walk
        (over-append (blockptr s) xs (free (j + (z + k) + m) ∷ ys) ∙ ap (λ (y : ℕ). over y ys) e ∙ sym (over-append (blockptr s) xs tail))
        b vs
        linked
        (λ x. omega (arith, c x, after-count x))
        (rover after) refl rover-in

    was : (i : ℕ) → Inner (blockptr s) new i → Inner (blockptr s) old i
    was i w =
        inner-swap (blockptr s) xs (free (j + (z + k) + m) ∷ ys) tail i
        (λ o. let e : p + j + (z + k) + m ≡ p + (j + (z + k) + m) = omega arith in inr (rw e o)) w

    quiet_same : (i : ℕ) → i ≢ 1 → Quiet s new i → get_or after i 0 ≡ get_or s i 0
    quiet_same i n (inl w) =
        after-other i (omega (arith, place, w)) ∙ unlink-other s q i
        (omega (arith, place, w, (others (last_at s q) last-in).2, (others (next_at s q) next-in).2))
    quiet_same i n (inr (inl w)) = above i (omega (arith, g.top))
    quiet_same i n (inr (inr w)) =
        ⊎_elim (λ l. after-other i (omega (arith, place, l))) (λ l. after-other i (omega (arith, place, l)))
        (inner-cases (blockptr s) xs (j + (z + k) + m) ys i w)
        ∙ unlink-other s q i (
          inner-apart s (blockptr s) false old (last_at s q) i g.walk (was i w) (omega (arith, last-in, c (last_at s q))),
          inner-apart s (blockptr s) false old (next_at s q) i g.walk (was i w) (omega (arith, next-in, c (next_at s q))),
        )

    left : Leaves s after new
    left = record {
      long = merged-length s (unlink s q) p (j + (z + k) + m) q (unlink-length s q) fits;
      base = merged-base s (unlink s q) p (j + (z + k) + m) q (unlink-length s q) fits (low 1 (omega arith));
      quiet = quiet_same;
    }

  size-q : size_at s q ≡ m
  size-q = omega (arith, place, at.1.1.1.0.first)

  pub both-heap : (t' : List ℕ) × Heap (join_both s p (j + (z + k)) q) new t'
  unfolding join_both
  both-heap = rw size-q (made turned.0 turned.1 turned.2 turned.3)

  pub both-links : (b : ℕ) (vs : List ℕ) → Links s q (b ∷ vs) q → ((x : ℕ) → count x (q ∷ b ∷ vs) ≡ count x ring)
      → Links (join_both s p (j + (z + k)) q) b vs b
  unfolding join_both
  both-links b vs h c = rw size-q (linked b vs h c)

  pub both-moves : (rover s ≡ q → rover (join_both s p (j + (z + k)) q) ≡ p) × (rover s ≢ q → rover (join_both s p (j + (z + k)) q) ≡ rover s)
  unfolding join_both
  both-moves = rw size-q (moves turned.0 turned.1 turned.2 turned.3)

  pub both-leaves : Leaves s (join_both s p (j + (z + k)) q) new
  unfolding join_both
  both-leaves = rw size-q (left turned.0 turned.1 turned.2 turned.3)
