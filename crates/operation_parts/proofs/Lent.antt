-- Tests 10, 11 and 12, of what is lent, and then others.
use Prim.Native.Nat.{ℕ, ◌≤◌}
use mathlib.Core.Path.{◌≡◌, refl, sym, ◌∙◌}
use mathlib.Core.Bool.{Bool, true, false, cond}
use mathlib.Core.List.{List}
use native.Mathlib.Omega.{arith}
use lib.Dec.{leb, eqb}
use lib.ListN.{length}
use borrow.Author.Tests.{leb-true, ne_eqb}
use Rattle.descriptor.proofs.Truth.{both}
use Rattle.operator.specs.Lent.{table_test}
use Rattle.procedure.specs.Refusal.{procedure_refusal}
use Rattle.acceptance.specs.Refusal.{length_test, data_refusal}
use Rattle.manual.specs.Program.{Program}
use Rattle.operations.specs.declared.Refusal.{Refusal}
use Rattle.operations.specs.Answers.{number_of}
use Rattle.operations.specs.Run.{run_refusal}
use Rattle.operations.proofs.Answers.{nonzero}

abbrev pub segments : List ℕ → List ℕ → List ℕ → ℕ
segments s regular alternate = cond (length_test s) (procedure_refusal regular alternate) 10

-- the first of them that fails, or what the others come to
pub then-others : (long : Bool) (lent rest : ℕ) → cond long (cond (eqb lent 0) rest lent) 10 ≡ cond (eqb (cond long lent 10) 0) rest (cond long lent 10)
then-others true lent rest = refl
then-others false lent rest = refl

pub longest : (s regular alternate : List ℕ) → 0 ≡ segments s regular alternate → length s ≤ 16384
longest s regular alternate passed = by (length_test s) refl passed
  where
    by : (long : Bool) → length_test s ≡ long → 0 ≡ cond long (procedure_refusal regular alternate) 10 → length s ≤ 16384
    by true h e = leb-true (length s) 16384 (both (leb 32 (length s)) (leb (length s) 16384) h).1
    by false h e = absurd (omega (arith, e))

-- ---- a run's

module _ (s : List ℕ) (p : Program) where
  abbrev lent : ℕ
  lent = segments s p.regular p.alternate

  abbrev others : ℕ
  others = cond (table_test p.table) (data_refusal s p.regular p.alternate) 26

  by-segments : run_refusal s p ≡ cond (eqb lent 0) others lent
  unfolding run_refusal
  by-segments = then-others (length_test s) (procedure_refusal p.regular p.alternate) others

  pub lent-refused : (refusal : Refusal) → number_of refusal ≡ lent → number_of refusal ≡ run_refusal s p
  lent-refused refusal same = sym (by-segments ∙ simp (← same, ne_eqb (number_of refusal) 0 (nonzero refusal)))

  module _ (passed : 0 ≡ lent) where
    pub no_table : false ≡ table_test p.table → 26 ≡ run_refusal s p
    no_table e = sym (by-segments ∙ simp (← passed, ← e))

    pub judged : true ≡ table_test p.table → {n : ℕ} → n ≡ data_refusal s p.regular p.alternate → n ≡ run_refusal s p
    judged e d = d ∙ sym (by-segments ∙ simp (← passed, ← e))
