-- The parts that the code hands back are the shape and the elements of a block that lies in the segment.
use Prim.Native.Nat.{ℕ, zero, suc, ◌+◌, ◌-◌, ◌≤◌, ◌<◌}
use native.Mathlib.Numerals.{add-one}
use native.Mathlib.Omega.{arith}
use mathlib.Core.Path.{◌≡◌, refl, ◌∙◌}
use mathlib.Core.List.{List, []}
use lib.ListN.{length, take, drop}
use lib.Seq.{drop-cons}
use borrow.Author.Tests.{le-leb, lt-leb}
use Rattle.segment.specs.Blocks.{part, size_at, rank_at, product, shape_at, elements_at}
use Rattle.std.specs.Prelude.{Option, Some, None}
use Rattle.std.specs.Slice.{IsGetRangeResult}
use Rattle.std.specs.Option.{unwrap_or}
use Rattle.std.proofs.Common.{Bor, ⊎_elim, sym}
use Rattle.segment.specs.Parts.{within, shape_part, elements_part}

pub part-take : (n : ℕ) (s : List ℕ) (a : ℕ) → a + n ≤ length s → part s a n ≡ take n (drop a s)
part-take zero s a fits = refl
part-take (suc n) s a fits =
    rw (part-take n s (a + 1) (omega arith), drop-cons s a 0 (omega arith), add-one a)

pub within_in : (s : List ℕ) (a n : ℕ) → a + n ≤ length s → within s a n ≡ part s a n
unfolding within
within_in s a n fits = simp (le-leb _ _ fits)

pub within-take : (s : List ℕ) (a n : ℕ) → a + n ≤ length s → within s a n ≡ take n (drop a s)
within-take s a n fits = within_in s a n fits ∙ part-take n s a fits

pub within-out : (s : List ℕ) (a n : ℕ) → length s < a + n → within s a n ≡ []
unfolding within
within-out s a n past = simp (lt-leb _ _ past)

-- what the library's `get` of that range gives, the empty part where it gives none
pub within-got : (s : List ℕ) (start count : ℕ) (got : Option (Bor (List ℕ))) (empty : Bor (List ℕ)) → empty.now ≡ [] → IsGetRangeResult s start (start + count) got
    → (unwrap_or got empty).now ≡ within s start count
within-got s start count None empty e (past, some) = e ∙ sym (within-out s start count (⊎_elim (λ below. omega (arith, below)) (λ behind. behind) past))
within-got s start count (Some part) empty e (there, some) =
    let n : start + count - start ≡ count = omega arith in
    there.2 ∙ rw n (sym (within-take s start count there.1))

pub shape-part : (s : List ℕ) (a : ℕ) → a + 2 + rank_at s a ≤ length s → shape_part s a ≡ shape_at s a
unfolding shape_part shape_at
shape-part s a fits = within_in s (a + 2) (rank_at s a) fits

pub elements-part : (s : List ℕ) (a : ℕ) → size_at s a ≡ 2 + rank_at s a + product (shape_at s a) → a + size_at s a ≤ length s → elements_part s a ≡ elements_at s a
unfolding elements_part elements_at
elements-part s a sized fits =
    let n : size_at s a - (rank_at s a + 2) ≡ product (shape_at s a) = omega arith in
    rw n (within_in s (a + 2 + rank_at s a) (product (shape_at s a)) (omega arith))
