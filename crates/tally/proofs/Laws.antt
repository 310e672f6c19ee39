-- The laws of counts: what counting an instruction leaves, and the struct beside its eight counts. Assumes nothing.
use Prim.Native.Nat.{min, ℕ, zero, suc, ◌+◌, ◌^◌, ◌<◌, ◌≤◌}
use native.Mathlib.Omega.{arith}
use mathlib.Core.Path.{◌≡◌, refl, sym, ap, ◌∙◌}
use mathlib.Core.Bool.{Bool, true, false, cond}
use mathlib.Core.List.{List, [], ◌∷◌}
use lib.Dec.{ltb}
use lib.ListN.{get_or, set, length, length-set}
use lib.Seq.{set_out, set-get_or, take_all}
use mir.Val.{Val}
use denote.Laws.{Is}
use denote.Struct.Laws.{owed}
use borrow.Author.Tests.{ltb-true, ltb-false}
use Rattle.instruction.specs.Families.{family_of, order_of}
use Rattle.segment.proofs.Parts.{part-take}
use Rattle.tally.specs.declared.Tally.{Tally}
use Rattle.tally.specs.Counts.{count_limit, none_counted, count_up, counted, counts_of, tally_of, count_sum, added}
use Rattle.tally.specs.contracts.Tally as T
use Rattle.tally.proofs.Tally.TheLaws as T'

-- No count is above the limit.
abbrev pub Within : List ℕ → Type 0
Within counts = (i : ℕ) → get_or counts i 0 ≤ count_limit

-- ---- counting

same-either : (b : Bool) (counts : List ℕ) → cond b counts counts ≡ counts
same-either true counts = refl
same-either false counts = refl

-- an instruction whose family's count is at i
module _ (first : ℕ) (counts : List ℕ) (i : ℕ) (place : i ≡ order_of (family_of first)) where
  pub count-up : get_or counts i 0 ≤ count_limit → counted first counts ≡ set counts i (min (get_or counts i 0 + 1) count_limit)
  unfolding counted count_up
  count-up word = rw (sym place) (by-test (ltb (get_or counts i 0) count_limit) refl)
    where
      by-test : (b : Bool) → ltb (get_or counts i 0) count_limit ≡ b
          → cond b (set counts i (get_or counts i 0 + 1)) counts ≡ set counts i (min (get_or counts i 0 + 1) count_limit)
      by-test true e =
          let more : min (get_or counts i 0 + 1) count_limit ≡ get_or counts i 0 + 1 = omega (arith, ltb-true _ _ e) in
          rw more
      by-test false e =
          let full : min (get_or counts i 0 + 1) count_limit ≡ get_or counts i 0 = omega (arith, ltb-false _ _ e, word) in
          rw full (sym (set-get_or counts i 0))

  pub count_past : length counts ≤ i → counted first counts ≡ counts
  unfolding counted count_up
  count_past past = rw (sym place) (simp (set_out counts i (get_or counts i 0 + 1) past) (same-either (ltb (get_or counts i 0) count_limit) counts))

counted-length-at : (b : Bool) (counts : List ℕ) (i w : ℕ) → length (cond b (set counts i w) counts) ≡ length counts
counted-length-at true counts i w = length-set counts i w
counted-length-at false counts i w = refl

pub counted-length : (first : ℕ) (counts : List ℕ) → length (counted first counts) ≡ length counts
unfolding counted count_up
counted-length first counts =
    counted-length-at (ltb (get_or counts (order_of (family_of first)) 0) count_limit) counts (order_of (family_of first)) (get_or counts (order_of (family_of first)) 0 + 1)

-- ---- both counts of a family

pub sum-none : (b : ℕ) → b ≤ count_limit → count_sum 0 b ≡ b
sum-none b fits = omega arith

-- ---- the struct

pub none-added : (t : Tally) → Within (counts_of t) → added (tally_of none_counted) t ≡ t
unfolding added
none-added t within = λ j. record {
  short_local = sum-none t.short_local (within 0) j;
  short_const = sum-none t.short_const (within 1) j;
  gen_scalar = sum-none t.gen_scalar (within 2) j;
  mem_ref = sum-none t.mem_ref (within 3) j;
  etc = sum-none t.etc (within 4) j;
  long_local = sum-none t.long_local (within 5) j;
  long_global = sum-none t.long_global (within 6) j;
  index = sum-none t.index (within 7) j;
}

pub counts-tally : (l : List ℕ) → length l ≡ 8 → counts_of (tally_of l) ≡ l
counts-tally l eight = part-take 8 l 0 (omega arith) ∙ take_all 8 l (omega arith)

-- ---- a tally in code

abbrev Words : List ℕ → Type 0
Words [] = Unit {0}
Words (n ∷ counts) = (n < 2 ^ 32) × Words counts

words-within : (counts : List ℕ) → Words counts → Within counts
words-within [] h i = omega arith
words-within (n ∷ counts) h zero = let below = h.0 in omega arith
words-within (n ∷ counts) h (suc i) = words-within counts h.1 i

-- its counts are words
pub tally-within : (t : Tally) (vs : List Val) → Is T.the_row t vs → Within (counts_of t)
tally-within t vs is =
    let f = owed T.the_type T'.the_laws t vs is in
    words-within (counts_of t)
    (f.0.1, (f.1.0.1, (f.1.1.0.1, (f.1.1.1.0.1, (f.1.1.1.1.0.1, (f.1.1.1.1.1.0.1, (f.1.1.1.1.1.1.0.1, (f.1.1.1.1.1.1.1.0.1, tt))))))))

-- the tally of eight counts, added to none, has these counts
pub counts-added : (t : Tally) (vs : List Val) (counts : List ℕ) → Is T.the_row t vs → t ≡ tally_of counts → length counts ≡ 8
    → counts_of (added (tally_of none_counted) t) ≡ counts
counts-added t vs counts is e eight = ap counts_of (none-added t (tally-within t vs is) ∙ e) ∙ counts-tally counts eight
