-- Test 18 array by array: what the arrays from one block on come to.
use Prim.Native.Nat.{ℕ, ◌+◌, ◌-◌, ◌<◌, ◌≤◌, ◌^◌}
use mathlib.Core.Path.{◌≡◌, refl, sym, ◌∙◌, ap}
use mathlib.Core.Bool.{Bool, true, false, cond, ◌&&◌}
use mathlib.Core.List.{List, [], ◌∷◌}
use native.Mathlib.Omega.{arith}
use lib.ListN.{get_or, length}
use lib.Dec.{eqb}
use borrow.Author.Tests.{le-leb, eq-eqb, ne_eqb}
use Rattle.descriptor.specs.Fields.{array_word}
use Rattle.segment.specs.State.{blockptr}
use Rattle.segment.specs.Blocks.{free_at, span_at, count_at, dummy}
use Rattle.storage.specs.Heap.{Block, free, array, Walk, over, count}
use Rattle.storage_theorems.proofs.Walks.{over-le}
use Rattle.storage_theorems.proofs.Counts.{hit-eq, hit-not, hit_same, count-le}
use Rattle.segment.specs.View.{owners}
use Rattle.acceptance_storage.specs.Tests.{every}
use Rattle.acceptance_storage.specs.Head.{Head}
use Rattle.acceptance_storage.specs.Blocks.{starts_from, array_starts, blocks_test}
use Rattle.acceptance_storage.specs.Marks.{Tally}
use Rattle.acceptance_storage.specs.Structure.{arrays}
use Rattle.descriptor.proofs.Truth.{by-eq}
use Rattle.acceptance_storage.proofs.Starts.{starts-few, starts_none, starts-end, array-hit, array-miss}
use Rattle.acceptance_storage.proofs.Tiling.{Tiled, walk-starts}
use Rattle.acceptance_storage.proofs.Structure.{blocks-facts, walk-tiles}
use Rattle.acceptance.specs.Counts.{count_test, counts_test}
use Rattle.acceptance.specs.Tables.{Tallied, arrays_from, Met}

module _ (test : ℕ → Bool) (s : List ℕ) (a end n : ℕ) where
  pub arrays-none : n ≤ 0 → every test (starts_from false n s a end) ≡ true
  arrays-none h = ap (every test) (starts_none false n s a end h)

  module _ (pos : 0 < n) where
    pub arrays-end : end ≤ a → every test (starts_from false n s a end) ≡ true
    arrays-end h = ap (every test) (starts-end s a end n pos false h)

    module _ (low : a < end) where
      turn : every test (starts_from false n s a end)
          ≡ cond (free_at s a) true (test a) && every test (starts_from false (n - 1) s (a + span_at s a) end)
      turn = go (free_at s a) refl
        where
          go : (f : Bool) → free_at s a ≡ f → every test (starts_from false n s a end)
              ≡ cond (free_at s a) true (test a) && every test (starts_from false (n - 1) s (a + span_at s a) end)
          go true f = ap (every test) (array-miss s a end n pos low f) ∙ simp f
          go false f = ap (every test) (array-hit s a end n pos low f) ∙ simp f

      module _ {r : Bool} (q : r ≡ cond (free_at s a) true (test a)) where
        pub array-passes : r ≡ true → {less : ℕ} → less ≡ n - 1 → every test (starts_from false n s a end) ≡ every test (starts_from false less s (a + span_at s a) end)
        array-passes e fewer = rw fewer (turn ∙ simp (sym q ∙ e))

        pub array-fails : r ≡ false → every test (starts_from false n s a end) ≡ false
        array-fails e = turn ∙ simp (sym q ∙ e)

-- All of them.
pub arrays-all : (s : List ℕ) (a end : ℕ) {n : ℕ} → n ≡ length s → starts_from false n s a end ≡ arrays_from s a end
arrays-all s a end all = rw all

-- Which arrays are among them.
module _ (s : List ℕ) (a end n : ℕ) (pos : 0 < n) (low : a < end) where
  pub array-among : free_at s a ≡ false → 0 < count a (starts_from false n s a end)
  array-among f = rw (array-hit s a end n pos low f) (omega (arith, hit_same a))

  pub later-among : {less : ℕ} → less ≡ n - 1 → (x : ℕ) → 0 < count x (starts_from false less s (a + span_at s a) end) → 0 < count x (starts_from false n s a end)
  later-among fewer x later = go (free_at s a) refl
    where
      k : 0 < count x (starts_from false (n - 1) s (a + span_at s a) end)
      k = rw fewer at later

      go : (f : Bool) → free_at s a ≡ f → 0 < count x (starts_from false n s a end)
      go true f = rw (array-miss s a end n pos low f) k
      go false f = rw (array-hit s a end n pos low f) (omega (arith, k))

-- The count of an array whose mark and cells are in the table.
one_more : (n m k : ℕ) → m ≡ 1 + k → eqb (1 + n) m ≡ eqb n k
one_more n m k e = by-eq n k (λ z. eq-eqb (1 + n) m (omega (arith, e, z)) ∙ sym (eq-eqb n k z))
    (λ z. ne_eqb (1 + n) m (λ y. z (omega (arith, e, y))) ∙ sym (ne_eqb n k z))

pub counted : (s : List ℕ) (a n m : ℕ) → free_at s a ≡ false → n ≡ count_at s a → 1 ≤ n → m ≡ 1 + count (array_word a) (owners s)
    → eqb (1 + n) m ≡ cond (free_at s a) true (count_test s (owners s) a)
unfolding count_test
counted s a n m f e l k = one_more n m (count (array_word a) (owners s)) k ∙ sym (simp (f, ← e, le-leb 1 n l))

-- An array's start stands once among the starts.
arrays-low : (s : List ℕ) (a : ℕ) (before : Bool) (blocks : List Block) (x : ℕ) → Walk s a before blocks → x < a → count x (arrays a blocks) ≡ 0
arrays-low s a before [] x h l = refl
arrays-low s a before (free m ∷ blocks) x h l = arrays-low s (a + m) true blocks x h.1 (omega arith)
arrays-low s a before (array z m ∷ blocks) x h l =
    omega (arith, hit-not x a (λ e. omega (arith, e)), arrays-low s (a + (z + m)) false blocks x h.1 (omega arith))

pub arrays-once : (s : List ℕ) (a : ℕ) (before : Bool) (blocks : List Block) (x : ℕ) → Walk s a before blocks → count x (arrays a blocks) ≤ 1
arrays-once s a before [] x h = omega arith
arrays-once s a before (free m ∷ blocks) x h = arrays-once s (a + m) true blocks x h.1
arrays-once s a before (array z m ∷ blocks) x h =
    by-eq x a (λ e. omega (arith, hit-eq x a e, arrays-low s (a + (z + m)) false blocks x h.1 (omega (arith, e, h.0.least))))
    (λ e. omega (arith, hit-not x a e, arrays-once s (a + (z + m)) false blocks x h.1))

arrays-below : (s : List ℕ) (a : ℕ) (before : Bool) (blocks : List Block) (x : ℕ) → Walk s a before blocks → 0 < count x (arrays a blocks) → x < over a blocks
arrays-below s a before [] x h k = absurd (omega arith)
arrays-below s a before (free m ∷ blocks) x h k = arrays-below s (a + m) true blocks x h.1 k
arrays-below s a before (array z m ∷ blocks) x h k =
    by-eq x a (λ e. omega (arith, e, h.0.least, over-le (a + (z + m)) blocks))
    (λ e. arrays-below s (a + (z + m)) false blocks x h.1 (omega (arith, k, hit-not x a e)))

starts-once : (s : List ℕ) (x : ℕ) → Head s → length s ≤ 16384 → blocks_test s ≡ true → 0 < count x (array_starts s)
    → (count x (array_starts s) ≡ 1) × (x < 2 ^ 16)
unfolding array_starts Tiled
starts-once s x h l t k =
    let w = walk-tiles s h l (blocks-facts s t).0 in
    let e = rw w.2 at (walk-starts (length s) s (blockptr s) false w.0 w.1 (omega (arith, w.2, h.top)) (omega (arith, w.2, h.top))).1 in
    let c = rw e at k in
    rw e (
      omega (arith, c, arrays-once s (blockptr s) false w.0 x w.1),
      omega (arith, w.2, h.top, arrays-below s (blockptr s) false w.0 x w.1 c),
    )

-- Before any cell is met, no mark is higher than the segment is long.
pub marks-few : (s table : List ℕ) → Tally table (array_starts s) → (x : ℕ) → get_or table x 0 ≤ length s
unfolding array_starts
marks-few s table z x = omega (
  arith,
  z x,
  count-le x (starts_from false (length s) s (blockptr s) (dummy s)),
  starts-few false s (dummy s) (length s) (blockptr s),
)

-- Once all cells are met, the table has at each array its mark and the number of its cells.
pub all-tallied : (s : List ℕ) {before after : List ℕ} → Head s → length s ≤ 16384 → blocks_test s ≡ true
    → Tally before (array_starts s) → Met before after (owners s) → Tallied s after
all-tallied s {before} {after} h l t z m x k =
    let o = starts-once s x h l t k in
    omega (arith, o.0, z x, m.sum x o.1 (omega (arith, o.0, z x)))

pub counts-are : (s : List ℕ) (from end : ℕ) → from ≡ blockptr s → end ≡ dummy s
    → every (count_test s (owners s)) (arrays_from s from end) ≡ counts_test s
unfolding counts_test array_starts
counts-are s from end p q = rw (p, q)
