-- The table as a list of tests is the table that the operations' definitions cite.
use Prim.Native.Nat.{ℕ, ◌<◌}
use mathlib.Core.Path.{◌≡◌, refl, sym, ◌∙◌, ap, subst}
use mathlib.Core.Bool.{Bool, true, false, cond, ◌&&◌}
use mathlib.Core.Logic.{◌≢◌}
use mathlib.Core.List.{List, [], ◌∷◌, ◌++◌}
use native.Mathlib.Omega.{arith}
use lib.Dec.{eqb}
use borrow.Author.Tests.{ne_eqb}
use Rattle.operator.specs.Lent.{table_test}
use Rattle.procedure.specs.Refusal.{segment_length_test, contents_test, procedure_refusal}
use Rattle.acceptance.specs.Refusal.{length_test, data_refusal, refusal}
use Rattle.manual.specs.Program.{Program}
use Rattle.fresh_segment.specs.LayOut.{Layout, function_test, parts_test, lay_out_refusal}
use Rattle.operations.specs.Run.{run_refusal}
use Rattle.audit.specs.Calls.{Procedures, procedures_of, lay_out, run, Test, first_failed, segment_tests, tests}

-- ---- tests one after the other

abbrev Numbered : List Test → Type 0
Numbered [] = Unit {0}
Numbered (x ∷ more) = (x.number ≢ 0) × Numbered more

one_more : (b : Bool) (number first last : ℕ) → number ≢ 0 → (all : ℕ) → all ≡ cond (eqb first 0) last first
    → cond b all number ≡ cond (eqb (cond b first number) 0) last (cond b first number)
one_more true number first last some all e = e
one_more false number first last some all e = rw (ne_eqb number 0 some)

first-after : (xs ys : List Test) → Numbered xs → first_failed (xs ++ ys) ≡ cond (eqb (first_failed xs) 0) (first_failed ys) (first_failed xs)
first-after [] ys h = refl
first-after (x ∷ xs) ys h = one_more x.passes x.number (first_failed xs) (first_failed ys) h.0 (first_failed (xs ++ ys)) (first-after xs ys h.1)

abbrev Below : ℕ → List Test → Type 0
Below n [] = Unit {0}
Below n (x ∷ more) = (x.number < n) × Below n more

either : {n a b : ℕ} (t : Bool) → a < n → b < n → cond t a b < n
either true h k = h
either false h k = k

first_below : (n : ℕ) (xs : List Test) → Below n xs → 0 < n → first_failed xs < n
first_below n [] h some = some
first_below n (x ∷ xs) h some = either x.passes (first_below n xs h.1 some) h.0

-- ---- tests 11 and 12

procedures-told : (lengths contents : Bool) (rest : ℕ)
    → cond (eqb (cond lengths (cond contents 0 12) 11) 0) rest (cond lengths (cond contents 0 12) 11) ≡ cond lengths (cond contents rest 12) 11
procedures-told true true rest = refl
procedures-told true false rest = refl
procedures-told false contents rest = refl

module _ (s : List ℕ) (p : Procedures) where
  lent-told : (rest : ℕ) → cond (length_test s) (cond (eqb (procedure_refusal p.regular p.alternate) 0) rest (procedure_refusal p.regular p.alternate)) 10
      ≡ cond (length_test s)
      (cond (segment_length_test p.regular && segment_length_test p.alternate) (cond (contents_test p.regular && contents_test p.alternate) rest 12) 11)
      10
  unfolding procedure_refusal
  lent-told rest =
      ap (λ (n : ℕ). cond (length_test s) n 10)
      (procedures-told (segment_length_test p.regular && segment_length_test p.alternate) (contents_test p.regular && contents_test p.alternate) rest)

  -- tests 10–18
  pub segment-told : first_failed (segment_tests s p) ≡ refusal s p.regular p.alternate
  unfolding refusal data_refusal
  segment-told = sym (lent-told (data_refusal s p.regular p.alternate))

  pub lay-out-told : (l : Layout) → first_failed (tests s (lay_out p l)) ≡ lay_out_refusal s p.regular p.alternate l
  unfolding lay_out_refusal
  lay-out-told l = sym (lent-told (cond (function_test p.regular p.alternate l) (cond (parts_test s p.regular p.alternate l) 0 19) 20))

  pub segment-below : refusal s p.regular p.alternate < 19
  segment-below = subst (λ (n : ℕ). n < 19) segment-told (first_below 19 (segment_tests s p) below (omega arith))
    where
      below : Below 19 (segment_tests s p)
      below = (omega arith, (omega arith, (omega arith, (omega arith, (omega arith, (omega arith, (omega arith, (omega arith, (omega arith, tt)))))))))

  -- tests 10–18 and then others
  pub further-told : (ys : List Test) → first_failed (segment_tests s p ++ ys)
      ≡ cond (eqb (refusal s p.regular p.alternate) 0) (first_failed ys) (refusal s p.regular p.alternate)
  further-told ys =
      first-after (segment_tests s p) ys numbered
      ∙ ap (λ (n : ℕ). cond (eqb n 0) (first_failed ys) n) segment-told
    where
      numbered : Numbered (segment_tests s p)
      numbered = ((λ z. omega arith), ((λ z. omega arith), ((λ z. omega arith), ((λ z. omega arith), ((λ z. omega arith), ((λ z. omega arith), ((λ z. omega arith), ((λ z. omega arith), ((λ z. omega arith), tt)))))))))

-- a run's: 26 stands between them
pub run-told : (s : List ℕ) (p : Program) (budget : ℕ) → first_failed (tests s (run p budget)) ≡ run_refusal s p
unfolding run_refusal data_refusal
run-told s p budget = sym (lent-told s (procedures_of p) (cond (table_test p.table) (data_refusal s p.regular p.alternate) 26))
