-- A request that is served by an entire free block keeps the heap.
use Prim.Native.Nat.{ℕ, ◌+◌, ◌-◌, ◌*◌, ◌/◌, ◌%◌, ◌^◌, ◌<◌, ◌≤◌}
use mathlib.Core.Path.{◌≡◌, sym, ◌∙◌, ap}
use mathlib.Core.Bool.{false}
use mathlib.Core.List.{List, ◌∷◌, ◌++◌}
use mathlib.Core.Logic.{◌≢◌, inl, inr, ⊎_elim}
use native.Mathlib.Omega.{arith}
use lib.ListN.{get_or, length}
use lib.Seq.{get_or-set_same, get_or-set_other, lt-length-set}
use Rattle.segment.specs.State.{sbase, rover, blockptr, set_rover}
use Rattle.segment.specs.Blocks.{next_at, last_at}
use Rattle.storage.specs.Ring.{clear_prev_free, unlink}
use Rattle.storage.specs.Request.{given_whole}
use Rattle.storage.specs.Heap.{Block, prev_free_bit, Walk, over, frees, hit, count, Links, Heap, free, array}
use Rattle.segment.proofs.Fields.{set_rover-other, set_rover-rover, set_rover-length, set_rover-base}
use Rattle.storage.proofs.Written.{unlink-length, unlink-other, whole_length, whole-other}
use Rattle.storage_theorems.specs.Words.{Quiet, Leaves}
use Rattle.storage_theorems.proofs.Walks.{over-le, walk-replace, walk-clear}
use Rattle.storage_theorems.proofs.Counts.{hit-cases, hit_same, hit-eq, frees-count, over-append, frees-cases}
use Rattle.storage_theorems.proofs.Ring.{links-same, links-last}
use Rattle.storage_theorems.proofs.Search.{members-once, member-within, free-ring}
use Rattle.storage_theorems.proofs.Inner.{inner-cases, inner-apart}
use Rattle.storage_theorems.proofs.Heaps.{heap-make}
use Rattle.storage_theorems.proofs.Unlink.{unlink-ring, unlink-walk}

module _ (s : List ℕ) (f slop size : ℕ) where
  module _ (n3 : 3 ≤ size) (fit : f + size + slop < length s) where
    pub whole-first : get_or (given_whole s f slop size) f 0 ≡ slop * 2 ^ 16 + size
    unfolding given_whole clear_prev_free
    whole-first =
        let e : f ≢ f + size + slop = omega arith in
        let l : f < length (unlink s f) = omega (arith, unlink-length s f) in
        simp (get_or-set_other, get_or-set_same)

    pub whole-next : get_or (given_whole s f slop size) (f + size + slop) 0 ≡ get_or (unlink s f) (f + size + slop) 0 % 2 ^ 30
    unfolding given_whole clear_prev_free
    whole-next =
        let e : f + size + slop ≢ f = omega arith in
        let l : f + size + slop < length (unlink s f) = omega (arith, unlink-length s f) in
        simp (get_or-set_other, get_or-set_same, lt-length-set)

module _ {s : List ℕ} {t : List ℕ} (xs : List Block) (n : ℕ) (ys : List Block) (size : ℕ) (g : Heap s (xs ++ free n ∷ ys) t) (n3 : 3 ≤ size)
    (fits : size ≤ n) (small : n < size + 3) where
  -- the found block, the end, and the segment after the request
  abbrev f : ℕ
  f = over (blockptr s) xs

  abbrev old : List Block
  old = xs ++ free n ∷ ys

  abbrev new : List Block
  new = xs ++ array size (n - size) ∷ ys

  abbrev end : ℕ
  end = over (blockptr s) old

  abbrev members : List ℕ
  members = frees (blockptr s) old

  abbrev after : List ℕ
  after = set_rover (given_whole s f (n - size) size) (next_at s f)

  place : (8 ≤ blockptr s) × (blockptr s ≤ f) × (f + n ≤ end) × (end + 3 ≤ length s) × (length s ≤ 16384)
  place = (
    g.low,
    over-le (blockptr s) xs,
    omega (arith, over-append (blockptr s) xs (free n ∷ ys), over-le (f + n) ys),
    omega (arith, g.top, g.room),
    g.short,
  )

  f-free : 0 < count f members
  f-free = omega (arith, hit_same f, frees-count f (blockptr s) xs (free n ∷ ys))

  -- the ring from the found block
  turned : (b : ℕ) × (vs : List ℕ) × Links s f (b ∷ vs) f × ((x : ℕ) → count x (f ∷ b ∷ vs) ≡ count x (end ∷ members))
  turned = free-ring g f f-free

  module _ (b : ℕ) (vs : List ℕ) (h : Links s f (b ∷ vs) f) (c : (x : ℕ) → count x (f ∷ b ∷ vs) ≡ count x (end ∷ members)) where
    within : (x : ℕ) → 0 < count x (end ∷ members) → (blockptr s ≤ x) × (x ≤ end)
    within x k = member-within g x (omega (arith, g.once x))

    last-in : 0 < count (last_at s f) (end ∷ members)
    last-in = omega (arith, c (last_at s f), links-last s f (b ∷ vs) f h)

    next-in : 0 < count (next_at s f) (end ∷ members)
    next-in = omega (arith, c (next_at s f), hit-eq (next_at s f) b h.0.next)

    ring1 : Links (unlink s f) b vs b
    ring1 = unlink-ring s f b vs h (λ x. omega (arith, c x, members-once g x)) (λ x k. omega (arith, place, within x (omega (arith, c x))))

    walk1 : Walk (unlink s f) (blockptr s) false old
    walk1 = unlink-walk s f (blockptr s) false old g.walk last-in next-in

    after_same : (i : ℕ) → (i ≢ 1) × (i ≢ f) × (i ≢ f + size + (n - size)) → get_or after i 0 ≡ get_or (unlink s f) i 0
    after_same i k = set_rover-other _ _ i k.0 ∙ whole-other s f (n - size) size i (k.1, k.2)

    after-low : (i : ℕ) → i ≢ 1 → i < 8 → get_or after i 0 ≡ get_or s i 0
    after-low i k l =
        after_same i (omega (arith, place))
        ∙ unlink-other s f i (omega (arith, place, within (last_at s f) last-in, within (next_at s f) next-in))

    after-length : length after ≡ length s
    after-length = set_rover-length _ _ ∙ whole_length s f _ _

    after-walk : Walk after (blockptr s) false new
    after-walk =
        walk-replace (unlink s f) after (blockptr s) false xs (free n ∷ ys) (array size (n - size) ∷ ys) walk1
        (λ i l u. after_same i (omega (arith, place)))
        (λ q w. (
          record {
            least = n3;
            small = omega arith;
            first = set_rover-other _ _ f (omega (arith, place)) ∙ whole-first s f (n - size) size n3 (omega (arith, place)) ∙ omega
                (arith, ap prev_free_bit w.0.alone);
          },
          let e : f + (size + (n - size)) ≡ f + n = omega arith in
              rw e
              (walk-clear (unlink s f) after (f + n) ys w.1
              (λ i l u. after_same i (omega (arith, place)))
              (let d : f + size + (n - size) ≡ f + n = omega arith in
              rw (← d) (set_rover-other _ _ _ (omega (arith, place)) ∙ whole-next s f (n - size) size n3 (omega (arith, place))))
              (omega (arith, place, over-append (blockptr s) xs (free n ∷ ys)))),
        ))

    member-same : (x : ℕ) → 0 < count x (b ∷ vs) → get_or after (x + 1) 0 ≡ get_or (unlink s f) (x + 1) 0
    member-same x k =
        ⊎_elim
        (λ e. after_same (x + 1) (omega (arith, place, e)))
        (λ e. let m : 0 < count x members = omega (arith, k, e, c x) in
        ⊎_elim
        (λ l. after_same (x + 1) (omega (arith, place, l, within x (omega (arith, m)))))
        (⊎_elim
        (λ l. absurd (omega (arith, k, hit-eq x f l, c x, members-once g x)))
        (λ l. after_same (x + 1) (omega (arith, place, l))))
        (frees-cases s (blockptr s) false xs n ys x g.walk m))
        (hit-cases x end)

    after-over : over (blockptr s) new ≡ end
    after-over =
        let e : f + (size + (n - size)) ≡ f + n = omega arith in
        over-append (blockptr s) xs (array size (n - size) ∷ ys) ∙ ap (λ (a : ℕ). over a ys) e ∙ sym (over-append (blockptr s) xs (free n ∷ ys))

    after-count : (x : ℕ) → count x (frees (blockptr s) new) + hit x f ≡ count x members
    after-count x =
        let e : f + (size + (n - size)) ≡ f + n = omega arith in
        omega (
          arith,
          frees-count x (blockptr s) xs (free n ∷ ys),
          frees-count x (blockptr s) xs (array size (n - size) ∷ ys),
          ap (λ (a : ℕ). count x (frees a ys)) e,
        )

    pub whole-rover : rover after ≡ b
    whole-rover =
        set_rover-rover _ _ (omega (arith, whole_length s f (n - size) size, place)) (omega (arith, place, within (next_at s f) next-in)) ∙ h.0.next

    above : (i : ℕ) → end + 2 ≤ i → get_or after i 0 ≡ get_or s i 0
    above i k =
        after_same i (omega (arith, place)) ∙ unlink-other s f i (omega (arith, place, within (last_at s f) last-in, within (next_at s f) next-in))

    -- the ring without the found block
    pub whole-links : Links after b vs b
    whole-links = links-same (unlink s f) after b vs b ring1 member-same (member-same b (omega (arith, hit_same b)))

    whole-after : (t' : List ℕ) × Heap after new t'
    whole-after =
        heap-make g after new after-length (after-low 0 (omega arith) (omega arith)) (after-low 4 (omega arith) (omega arith))
        (above (sbase s - 1) (omega (arith, g.top))) after-walk after-over
        b vs whole-links
        (λ x. omega (arith, c x, after-count x))
        b whole-rover (omega (arith, c b, after-count b, hit_same b))

    quiet_same : (i : ℕ) → i ≢ 1 → Quiet s old i → get_or after i 0 ≡ get_or s i 0
    quiet_same i k (inl q) =
        after_same i (omega (arith, place)) ∙ unlink-other s f i (omega (arith, place, within (last_at s f) last-in, within (next_at s f) next-in))
    quiet_same i k (inr (inl q)) = above i (omega (arith, g.top))
    quiet_same i k (inr (inr q)) =
        after_same i (⊎_elim (λ l. omega (arith, k, l)) (λ l. omega (arith, k, l)) (inner-cases (blockptr s) xs n ys i q))
        ∙ unlink-other s f i (
          inner-apart s (blockptr s) false old (last_at s f) i g.walk q last-in,
          inner-apart s (blockptr s) false old (next_at s f) i g.walk q next-in,
        )

    whole-left : Leaves s after old
    whole-left = record {
      long = after-length;
      base = set_rover-base _ _ (omega (arith, whole_length s f (n - size) size, place)) (omega (arith, place, within (next_at s f) next-in))
          ∙ ap (λ (w : ℕ). w / 2 ^ 16) (whole-other s f (n - size) size 1 (omega (arith, place)) ∙ unlink-other s f 1
          (omega (arith, place, within (last_at s f) last-in, within (next_at s f) next-in)));
      quiet = quiet_same;
    }

  pub whole-leaves : Leaves s after old
  whole-leaves = whole-left turned.0 turned.1 turned.2 turned.3

  pub whole-heap : (t' : List ℕ) × Heap after new t'
  whole-heap = whole-after turned.0 turned.1 turned.2 turned.3
