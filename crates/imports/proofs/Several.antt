-- Numbers one after the other: a loop that reads them into a lent slice.
use Prim.Native.Nat.{ℕ, suc, ◌+◌, ◌-◌, ◌≤◌, ◌<◌}
use native.Mathlib.Numerals.{add-one}
use native.Mathlib.Omega.{arith}
use mathlib.Core.Path.{◌≡◌, refl, sym, ap, ◌∙◌}
use mathlib.Core.List.{List, [], ◌∷◌, ◌++◌, append_assoc, append-nil}
use lib.ListN.{length, take, set}
use lib.Seq.{take-suc-set}
use borrow.Author.Tests.{lt-ltb, le-ltb}
use Rattle.std.proofs.Common.{Some, None}
use Rattle.imports.specs.Numbers.{Numbers, numbers, bad, number_at, several_at, and_more}

-- ---- one number of several

module _ (limit count : ℕ) (file : List ℕ) (place : ℕ) where
  pub no_number : number_at file place ≡ None → several_at limit (suc count) file place ≡ bad
  unfolding several_at
  no_number none = simp none

  module _ (n next : ℕ) (found : number_at file place ≡ Some (n, next)) where
    pub too-great : limit < n → several_at limit (suc count) file place ≡ bad
    unfolding several_at
    too-great above = simp (found, lt-ltb limit n above)

    pub one_more : n ≤ limit → several_at limit (suc count) file place ≡ and_more n (several_at limit count file next)
    unfolding several_at
    one_more within = simp (found, le-ltb limit n within)

-- ---- the loop

abbrev after : List ℕ → Numbers → Numbers
after before (numbers ns next) = numbers (before ++ ns) next
after before bad = bad

after_none : (found : Numbers) → after [] found ≡ found
after_none (numbers ns next) = refl
after_none bad = refl

after_more : (before : List ℕ) (n : ℕ) (found : Numbers) → after before (and_more n found) ≡ after (before ++ (n ∷ [])) found
after_more before n (numbers ns next) = ap (λ (all : List ℕ). numbers all next) (sym (append_assoc before (n ∷ []) ns))
after_more before n bad = refl

-- the first i numbers stand in `out`, and the others are read from `at` on
pub record Reading (limit count : ℕ) (file : List ℕ) (place : ℕ) (out : List ℕ) (at i : ℕ) : Type 0 where
  pub so_far : several_at limit count file place ≡ after (take i out) (several_at limit (count - i) file at)

module _ {limit count : ℕ} {file : List ℕ} {place : ℕ} {out : List ℕ} {at i : ℕ} (reading : Reading limit count file place out at i) where
  pub reading-all : i ≡ count → numbers (take count out) at ≡ several_at limit count file place
  unfolding several_at
  reading-all end =
      let none : count - i ≡ 0 = omega arith in
      sym (rw none at reading.so_far ∙ ap (λ (all : List ℕ). numbers all at) (append-nil (take i out)) ∙ rw end)

  module _ (left : i < count) where
    here : count - i ≡ suc (count - (i + 1))
    here = omega arith

    ahead : several_at limit count file place ≡ after (take i out) (several_at limit (suc (count - (i + 1))) file at)
    ahead = rw here at reading.so_far

    pub reading-none : number_at file at ≡ None → bad ≡ several_at limit count file place
    reading-none none = sym (ahead ∙ ap (after (take i out)) (no_number limit (count - (i + 1)) file at none))

    module _ (n next : ℕ) (found : number_at file at ≡ Some (n, next)) where
      pub reading-above : limit < n → bad ≡ several_at limit count file place
      reading-above above = sym (ahead ∙ ap (after (take i out)) (too-great limit (count - (i + 1)) file at n next found above))

      pub reading-on : n ≤ limit → i < length out → Reading limit count file place (set out i n) next (i + 1)
      reading-on within room =
          record {
            so_far =
                ahead
                ∙ ap (after (take i out)) (one_more limit (count - (i + 1)) file at n next found within)
                ∙ after_more (take i out) n (several_at limit (count - (i + 1)) file next)
                ∙ rw (add-one i, take-suc-set out i n room);
          }
