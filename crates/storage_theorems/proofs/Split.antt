-- A request that is served from the high end of a free block keeps the heap.
use Prim.Native.Nat.{ℕ, ◌+◌, ◌-◌, ◌/◌, ◌%◌, ◌^◌, ◌<◌, ◌≤◌}
use mathlib.Core.Path.{◌≡◌, sym, ◌∙◌, ap}
use mathlib.Core.Bool.{false}
use mathlib.Core.List.{List, ◌∷◌, ◌++◌}
use mathlib.Core.Logic.{◌≢◌, ◌⊎◌, inl, inr, ⊎_elim}
use native.Mathlib.Omega.{arith}
use lib.ListN.{get_or, length}
use lib.Seq.{get_or-set_same, get_or-set_other, lt-length-set}
use Rattle.segment.specs.State.{sbase, rover, blockptr, set_rover}
use Rattle.segment.specs.Blocks.{next_at}
use Rattle.storage.specs.Ring.{clear_prev_free}
use Rattle.storage.specs.Request.{split}
use Rattle.storage.specs.Heap.{Block, Walk, over, frees, count, Links, Heap, free, array}
use Rattle.segment.proofs.Fields.{set_rover-other, set_rover-rover, set_rover-length, set_rover-base}
use Rattle.storage.proofs.Written.{split-length, split-other}
use Rattle.storage_theorems.specs.Words.{Quiet, Leaves}
use Rattle.storage_theorems.proofs.Walks.{over-le, walk-replace, walk-clear}
use Rattle.storage_theorems.proofs.Counts.{hit-cases, hit_same, frees-append, frees-count, over-append, frees-cases}
use Rattle.storage_theorems.proofs.Ring.{links-same, ring-next}
use Rattle.storage_theorems.proofs.Search.{member-within}
use Rattle.storage_theorems.proofs.Inner.{inner-cases}
use Rattle.storage_theorems.proofs.Heaps.{heap-make}

module _ (s : List ℕ) (f rest size : ℕ) where
  module _ (r3 : 3 ≤ rest) (n3 : 3 ≤ size) (fit : f + rest + size < length s) where
    pub split-first : get_or (split s f rest size) f 0 ≡ 2 ^ 31 + rest
    unfolding split clear_prev_free
    split-first =
        let e1 : f ≢ f + rest - 1 = omega arith in
        let e2 : f ≢ f + rest = omega arith in
        let e3 : f ≢ f + rest + size = omega arith in
        let l : f < length s = omega arith in
        simp (get_or-set_other, get_or-set_same)

    pub split-end : get_or (split s f rest size) (f + rest - 1) 0 ≡ rest
    unfolding split clear_prev_free
    split-end =
        let e2 : f + rest - 1 ≢ f + rest = omega arith in
        let e3 : f + rest - 1 ≢ f + rest + size = omega arith in
        let l : f + rest - 1 < length s = omega arith in
        simp (get_or-set_other, get_or-set_same, lt-length-set)

    pub split-given : get_or (split s f rest size) (f + rest) 0 ≡ 2 ^ 30 + size
    unfolding split clear_prev_free
    split-given =
        let e3 : f + rest ≢ f + rest + size = omega arith in
        let l : f + rest < length s = omega arith in
        simp (get_or-set_other, get_or-set_same, lt-length-set)

    pub split-next : get_or (split s f rest size) (f + rest + size) 0 ≡ get_or s (f + rest + size) 0 % 2 ^ 30
    unfolding split clear_prev_free
    split-next =
        let e1 : f + rest + size ≢ f + rest - 1 = omega arith in
        let e2 : f + rest + size ≢ f + rest = omega arith in
        let e3 : f + rest + size ≢ f = omega arith in
        simp (get_or-set_other, get_or-set_same, lt-length-set)

module _ {s : List ℕ} {t : List ℕ} (xs : List Block) (n : ℕ) (ys : List Block) (size : ℕ) (g : Heap s (xs ++ free n ∷ ys) t) (n3 : 3 ≤ size)
    (big : size + 3 ≤ n) where
  -- the found block, the dummy, the blocks before and after, and the segment after
  abbrev f : ℕ
  f = over (blockptr s) xs

  abbrev old : List Block
  old = xs ++ free n ∷ ys

  abbrev new : List Block
  new = xs ++ free (n - size) ∷ array size 0 ∷ ys

  abbrev end : ℕ
  end = over (blockptr s) old

  abbrev after : List ℕ
  after = set_rover (split s f (n - size) size) (next_at s f)

  place : (8 ≤ blockptr s) × (blockptr s ≤ f) × (f + n ≤ end) × (end + 3 ≤ length s) × (length s ≤ 16384)
  place = (
    g.low,
    over-le (blockptr s) xs,
    omega (arith, over-append (blockptr s) xs (free n ∷ ys), over-le (f + n) ys),
    omega (arith, g.top, g.room),
    g.short,
  )

  after-length : length after ≡ length s
  after-length = set_rover-length _ _ ∙ split-length s _ _ _

  -- nothing is written but ROVER, words of the found block and the first word behind it
  after-other : (i : ℕ) → i ≢ 1 → (i ≢ f) × (i ≢ f + (n - size) - 1) × (i ≢ f + (n - size)) × (i ≢ f + (n - size) + size)
      → get_or after i 0 ≡ get_or s i 0
  after-other i h k = set_rover-other _ _ i h ∙ split-other s _ _ _ i k

  after_same : (i : ℕ) → i ≢ 1 → (i < f) ⊎ (f + n < i) → get_or after i 0 ≡ get_or s i 0
  after_same i h = ⊎_elim (λ k. after-other i h (omega (arith, k, n3, big))) (λ k. after-other i h (omega (arith, k, n3, big)))

  after-clear : get_or after (f + n) 0 ≡ get_or s (f + n) 0 % 2 ^ 30
  after-clear =
      let e : f + (n - size) + size ≡ f + n = omega arith in
      rw (← e) (set_rover-other _ _ _ (omega (arith, place)) ∙ split-next s _ _ _ (omega arith) n3 (omega (arith, place)))

  after-walk : Walk after (blockptr s) false new
  after-walk =
      walk-replace s after (blockptr s) false xs (free n ∷ ys) (free (n - size) ∷ array size 0 ∷ ys) g.walk
      (λ i l u. after_same i (omega (arith, g.low)) (inl u))
      (λ q w. (
        record {
          alone = w.0.alone;
          least = omega arith;
          first = set_rover-other _ _ _ (omega (arith, place)) ∙ split-first s _ _ _ (omega arith) n3 (omega (arith, place));
          end = set_rover-other _ _ _ (omega (arith, place)) ∙ split-end s _ _ _ (omega arith) n3 (omega (arith, place));
        },
        (
          record {
            least = n3;
            small = omega arith;
            first = set_rover-other _ _ _ (omega (arith, place)) ∙ split-given s _ _ _ (omega arith) n3 (omega (arith, place)) ∙ omega arith;
          },
          let e : f + (n - size) + (size + 0) ≡ f + n = omega arith in
              rw e
              (walk-clear s after (f + n) ys w.1
              (λ i l u. after_same i (omega (arith, place)) (inr (omega arith)))
              after-clear
              (omega (arith, place, over-append (blockptr s) xs (free n ∷ ys)))),
        ),
      ))

  -- the ring's members keep their words
  member-same : (x : ℕ) → 0 < count x (rover s ∷ t) → get_or after (x + 1) 0 ≡ get_or s (x + 1) 0
  member-same x k =
      ⊎_elim
      (λ e. after_same (x + 1) (omega (arith, place, e)) (inr (omega (arith, place, e))))
      (λ e. ⊎_elim
      (λ l. after_same (x + 1) (omega (arith, place, member-within g x k)) (inl (omega (arith, l))))
      (⊎_elim
      (λ l. after-other (x + 1) (omega (arith, place, l)) (omega (arith, l, n3, big)))
      (λ l. after_same (x + 1) (omega (arith, place, l)) (inr (omega (arith, l)))))
      (frees-cases s (blockptr s) false xs n ys x g.walk (omega (arith, k, e, g.once x))))
      (hit-cases x end)

  -- NEXT of the found block is in the ring
  f-member : 0 < count f (rover s ∷ t)
  f-member = omega (arith, g.once f, hit_same f, frees-count f (blockptr s) xs (free n ∷ ys))

  next-member : 0 < count (next_at s f) (rover s ∷ t)
  next-member = omega (arith, (ring-next s (rover s) t f g.links f-member).2 (next_at s f), hit_same (next_at s f))

  next_small : next_at s f < 2 ^ 16
  next_small = omega (arith, place, member-within g (next_at s f) next-member)

  -- the end and the free blocks are where they were
  after-over : over (blockptr s) new ≡ end
  after-over =
      let e : f + (n - size) + (size + 0) ≡ f + n = omega arith in
      over-append (blockptr s) xs (free (n - size) ∷ array size 0 ∷ ys) ∙ ap (λ (a : ℕ). over a ys) e ∙ sym
      (over-append (blockptr s) xs (free n ∷ ys))

  after-frees : frees (blockptr s) new ≡ frees (blockptr s) old
  after-frees =
      let e : f + (n - size) + (size + 0) ≡ f + n = omega arith in
      frees-append (blockptr s) xs (free (n - size) ∷ array size 0 ∷ ys)
      ∙ ap (λ (a : ℕ). frees (blockptr s) xs ++ f ∷ frees a ys) e
      ∙ sym (frees-append (blockptr s) xs (free n ∷ ys))

  pub split-rover : rover after ≡ next_at s f
  split-rover = set_rover-rover _ _ (omega (arith, split-length s f (n - size) size, place)) next_small

  above : (i : ℕ) → end + 2 ≤ i → get_or after i 0 ≡ get_or s i 0
  above i h = after_same i (omega (arith, place)) (inr (omega (arith, place)))

  -- the ring is as it was
  pub split-links : Links after (rover s) t (rover s)
  split-links = links-same s after (rover s) t (rover s) g.links member-same (member-same (rover s) (omega (arith, hit_same (rover s))))

  pub split-heap : (t' : List ℕ) × Heap after new t'
  split-heap =
      heap-make g after new after-length (after_same 0 (omega arith) (inl (omega (arith, place))))
      (after_same 4 (omega arith) (inl (omega (arith, place))))
      (above (sbase s - 1) (omega (arith, g.top))) after-walk after-over
      (rover s) t split-links
      (λ x. rw after-frees (g.once x))
      (next_at s f) split-rover (rw after-frees (omega (arith, next-member, g.once (next_at s f))))

  quiet_same : (i : ℕ) → i ≢ 1 → Quiet s old i → get_or after i 0 ≡ get_or s i 0
  quiet_same i k (inl q) = after_same i k (inl (omega (arith, place)))
  quiet_same i k (inr (inl q)) = above i (omega (arith, g.top))
  quiet_same i k (inr (inr q)) = after_same i k (inner-cases (blockptr s) xs n ys i q)

  pub split-leaves : Leaves s after old
  split-leaves = record {
    long = after-length;
    base = set_rover-base _ _ (omega (arith, split-length s f (n - size) size, place)) next_small ∙ ap (λ (w : ℕ). w / 2 ^ 16)
        (split-other s _ _ _ 1 (omega (arith, place, n3, big)));
    quiet = quiet_same;
  }
