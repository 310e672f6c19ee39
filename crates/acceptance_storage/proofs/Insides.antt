-- The inside of an array's block: the test passes exactly where its facts hold, and what the loops over it keep.
use Prim.Native.Nat.{ℕ, zero, suc, ◌+◌, ◌-◌, ◌*◌, ◌%◌, ◌^◌, ◌<◌, ◌≤◌}
use mathlib.Core.Path.{◌≡◌, refl, sym, ◌∙◌, ap}
use mathlib.Core.Bool.{Bool, true, false, cond}
use mathlib.Core.List.{List, [], ◌∷◌}
use mathlib.Core.Logic.{⊎_elim}
use native.Mathlib.Nat.{mul_assoc, mul-zero, mul-one, one-mul, le-mul_of_pos_right, add-sub_cancel_left}
use native.Mathlib.Numerals.{add-one}
use native.Mathlib.Omega.{arith}
use lib.ListN.{get_or, length, take, drop, drop_of_length-le}
use lib.Seq.{drop-cons}
use lib.Dec.{leb, eqb}
use borrow.Author.Tests.{leb-true, eqb-true, le-leb, lt-leb, eq-eqb}
use Rattle.descriptor.specs.Fields.{integer_limit}
use Rattle.descriptor.specs.Kinds.{is_scalar}
use Rattle.descriptor.proofs.Truth.{fails}
use Rattle.segment.specs.Blocks.{size_at, rank_at, part, product, shape_at, elements_at}
use Rattle.segment.proofs.Parts.{part-take}
use Rattle.storage.specs.Owned.{Inside}
use Rattle.storage_theorems.proofs.Counts.{order}
use Rattle.acceptance_storage.specs.Tests.{every, words_where}
use Rattle.acceptance_storage.specs.Blocks.{is_length, array_test}
use Rattle.acceptance_storage.specs.Answer.{inside_test, too_many, capped, element_count}
use Rattle.acceptance_storage.proofs.Tests.{both, passes, every-at, every-all, words-every, every-on, every-bad, every-end}

module _ (s : List ℕ) (a : ℕ) where
  pub array-sound : array_test s a ≡ true → Inside s a (size_at s a)
  unfolding array_test shape_at elements_at
  array-sound h =
      let count : ℕ = product (part s (a + 2) (rank_at s a)) in
      let t = both _ (words_where count is_scalar s (a + 2 + rank_at s a)) h in
      let r = both _ (eqb (size_at s a) (2 + rank_at s a + count)) t.0 in
      let q = both _ (words_where (rank_at s a) is_length s (a + 2)) r.0 in
      let p = both (eqb (get_or s (a + 1) 0 % 2 ^ 16) (rank_at s a)) (leb 1 (rank_at s a)) q.0 in
      record {
        clear = eqb-true _ _ p.0;
        rank = leb-true _ _ p.1;
        sized = eqb-true _ _ r.1;
        lengths = λ w k. leb-true _ _ (every-at is_length (shape_at s a) (sym (words-every (rank_at s a) is_length s (a + 2)) ∙ q.1) w k);
        scalars = λ w k. every-at is_scalar (elements_at s a) (sym (words-every count is_scalar s (a + 2 + rank_at s a)) ∙ t.1) w k;
      }

  pub array-complete : Inside s a (size_at s a) → array_test s a ≡ true
  unfolding array_test shape_at elements_at
  array-complete h =
      let count : ℕ = product (part s (a + 2) (rank_at s a)) in
      passes (passes (passes (passes (eq-eqb _ _ h.clear) (le-leb _ _ h.rank))
      (words-every (rank_at s a) is_length s (a + 2) ∙ every-all is_length (shape_at s a) (λ w k. le-leb _ _ (h.lengths w k))))
      (eq-eqb _ _ h.sized))
      (words-every count is_scalar s (a + 2 + rank_at s a) ∙ every-all is_scalar (elements_at s a) h.scalars)

  -- where all else is right, the elements decide
  array-open : get_or s (a + 1) 0 % 2 ^ 16 ≡ rank_at s a → 1 ≤ rank_at s a → every is_length (shape_at s a) ≡ true
      → size_at s a ≡ 2 + rank_at s a + product (shape_at s a) → array_test s a ≡ every is_scalar (elements_at s a)
  unfolding array_test shape_at elements_at
  array-open c l g z =
      simp (eq-eqb _ _ c, le-leb _ _ l, words-every (rank_at s a) is_length s (a + 2) ∙ g, eq-eqb _ _ z)
      (words-every (product (part s (a + 2) (rank_at s a))) is_scalar s (a + 2 + rank_at s a))

  elements-at : (to : ℕ) → to ≡ a + 2 + rank_at s a → part s to (product (shape_at s a)) ≡ elements_at s a
  unfolding elements_at
  elements-at to e = rw e

-- a number of elements, capped
pub capped-low : (n : ℕ) → n ≤ too_many → capped n ≡ n
capped-low n h = omega arith

pub capped-high : (n : ℕ) → too_many ≤ n → capped n ≡ too_many
capped-high n h = omega arith

capped-mul : (p w : ℕ) → capped (capped p * w) ≡ capped (p * w)
capped-mul p w = ⊎_elim (λ (l : p ≤ 65536). ap (λ (q : ℕ). capped (q * w)) (capped-low p l)) (λ (l : 65536 < p). go l w) (order p 65536)
  where
    go : 65536 < p → (w : ℕ) → capped (capped p * w) ≡ capped (p * w)
    go l zero = rw (capped-high p (omega arith), mul-zero p)
    go l (suc w) =
        ap (λ (q : ℕ). capped (q * suc w)) (capped-high p (omega arith))
        ∙ capped-high (65536 * suc w) (omega arith)
        ∙ sym (capped-high (p * suc w) (omega (arith, le-mul_of_pos_right {m = suc w} p (omega arith))))

pub capped_le : (n : ℕ) → capped n ≤ too_many
capped_le n = ⊎_elim (λ (l : n ≤ 65536). omega (arith, capped-low n l)) (λ (l : 65536 < n). omega (arith, capped-high n (omega arith))) (order n 65536)

-- a count that is not too many is exact
count_of : (shape : List ℕ) (b : Bool) → every is_length shape ≡ b → element_count shape ≡ cond b (capped (product shape)) too_many
unfolding element_count
count_of shape b e = rw e

count-exact : (shape : List ℕ) (n : ℕ) → element_count shape ≡ n → n < too_many → (every is_length shape ≡ true) × (product shape ≡ n)
count-exact shape n e l = go (every is_length shape) refl
  where
    go : (b : Bool) → every is_length shape ≡ b → (every is_length shape ≡ true) × (product shape ≡ n)
    go false z = absurd (omega (arith, count_of shape false z))
    go true z = (
      z,
      ⊎_elim (λ (k : product shape ≤ 65536). omega (arith, count_of shape true z, capped-low (product shape) k))
          (λ (k : 65536 < product shape). absurd (omega (arith, count_of shape true z, capped-high (product shape) (omega arith))))
          (order (product shape) 65536),
    )

-- the loop over the lengths: the product so far and what is left of it
pub record Counting (shape : List ℕ) (i count : ℕ) : Type 0 where
  pub exact : ℕ
  pub kept : count ≡ capped exact
  pub rest : exact * product (drop i shape) ≡ product shape
  pub good : every is_length shape ≡ every is_length (drop i shape)

pub counting-start : (shape : List ℕ) → Counting shape 0 1
counting-start shape = record { exact = 1; kept = refl; rest = one-mul (product shape); good = refl }

module _ (shape : List ℕ) (i count : ℕ) (h : Counting shape i count) where
  pub counting-le : count ≤ 65536
  counting-le = omega (arith, h.kept, capped_le h.exact)

  pub counting-end : length shape ≤ i → count ≡ element_count shape
  unfolding element_count
  counting-end l =
      let e : drop i shape ≡ [] = drop_of_length-le shape l in
      h.kept ∙ ap capped (sym (mul-one h.exact) ∙ rw e at h.rest) ∙ sym (simp (h.good ∙ every-end is_length shape i l))

  pub counting-bad : i < length shape → integer_limit < get_or shape i 0 → too_many ≡ element_count shape
  unfolding element_count
  counting-bad l k = sym (simp (h.good ∙ every-bad is_length shape i l (lt-leb _ _ k)))

  pub counting-on : i < length shape → get_or shape i 0 ≤ integer_limit → Counting shape (i + 1) (capped (count * get_or shape i 0))
  counting-on l k =
      let d : get_or shape i 0 ∷ drop (i + 1) shape ≡ drop i shape = rw (add-one i) (sym (drop-cons shape i 0 l)) in
      record {
        exact = h.exact * get_or shape i 0;
        kept = ap (λ (q : ℕ). capped (q * get_or shape i 0)) h.kept ∙ capped-mul h.exact (get_or shape i 0);
        rest = mul_assoc h.exact (get_or shape i 0) (product (drop (i + 1) shape)) ∙ ap (λ (m : List ℕ). h.exact * product m) d ∙ h.rest;
        good = h.good ∙ every-on is_length shape i l (le-leb _ _ k);
      }

-- the parts of the segment that the loops are handed
part_of : (s : List ℕ) (from to n : ℕ) → to ≡ from + n → to ≤ length s → take (to - from) (drop from s) ≡ part s from n
part_of s from to n e l = rw (e, add-sub_cancel_left) (sym (part-take n s from (omega arith)))

-- the outcomes, with the values that the code has in hand
module _ (s : List ℕ) (a : ℕ) where
  pub inside-free : 2 ^ 31 ≤ get_or s a 0 → true ≡ inside_test s a
  inside-free h = simp (le-leb (2 ^ 31) (get_or s a 0) h)

  module _ (f : get_or s a 0 < 2 ^ 31) where
    array-inside : inside_test s a ≡ array_test s a
    array-inside = simp (lt-leb (2 ^ 31) (get_or s a 0) f)

    pub inside-fails : (Inside s a (size_at s a) → ⊥) → false ≡ inside_test s a
    inside-fails h = sym (array-inside ∙ fails (array_test s a) (λ t. h (array-sound s a t)))

    module _ (fits : a + size_at s a ≤ length s) {rank : ℕ} (e : rank ≡ get_or s (a + 1) 0 % 2 ^ 16) (some : rank ≡ 0 → ⊥) (few : rank ≤ 15)
        (low : 2 + rank ≤ size_at s a) where
      rank_is : rank ≡ rank_at s a
      rank_is = omega arith

      shape_is : take (a + 2 + rank - (a + 2)) (drop (a + 2) s) ≡ shape_at s a
      unfolding shape_at
      shape_is = part_of s (a + 2) (a + 2 + rank) rank refl (omega arith) ∙ rw rank_is

      pub inside-count : Inside s a (size_at s a) → element_count (take (a + 2 + rank - (a + 2)) (drop (a + 2) s)) ≡ size_at s a - (2 + rank)
      unfolding element_count
      inside-count h =
          ap element_count shape_is
          ∙ simp (every-all is_length (shape_at s a) (λ w k. le-leb _ _ (h.lengths w k)))
          (capped-low (product (shape_at s a)) (omega (arith, h.sized)) ∙ omega (arith, h.sized, rank_is))

      -- where the number of elements is right, the elements decide
      pub inside-elements : element_count (take (a + 2 + rank - (a + 2)) (drop (a + 2) s)) ≡ size_at s a - (2 + rank)
          → every is_scalar (take (a + size_at s a - (a + 2 + rank)) (drop (a + 2 + rank) s)) ≡ inside_test s a
      inside-elements n =
          let k = count-exact (shape_at s a) (size_at s a - (2 + rank)) (ap element_count (sym shape_is) ∙ n) (omega arith) in
          let z : size_at s a ≡ 2 + rank_at s a + product (shape_at s a) = omega (arith, k.1, rank_is) in
          ap (every is_scalar) (elements-is z) ∙ sym (array-inside ∙ array-open s a (sym e ∙ rank_is) (omega (arith, rank_is)) k.0 z)
        where
          elements-is : size_at s a ≡ 2 + rank_at s a + product (shape_at s a) → take (a + size_at s a - (a + 2 + rank)) (drop (a + 2 + rank) s) ≡ elements_at s a
          elements-is z =
              part_of s (a + 2 + rank) (a + size_at s a) (product (shape_at s a)) (omega (arith, rank_is)) fits
              ∙ elements-at s a (a + 2 + rank) (ap (λ (n : ℕ). a + 2 + n) rank_is)
