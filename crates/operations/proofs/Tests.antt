-- Where a run is not refused, tests 10–18 pass and the table is one; under the manual's table they are all its tests.
use Prim.Native.Nat.{ℕ}
use mathlib.Core.Path.{◌≡◌, refl}
use mathlib.Core.Bool.{Bool, true, false, cond}
use mathlib.Core.List.{List}
use native.Mathlib.Omega.{arith}
use lib.Dec.{eqb}
use borrow.Author.Tests.{eqb-false}
use Rattle.operator.specs.Lent.{table_test}
use Rattle.procedure.specs.Refusal.{procedure_refusal}
use Rattle.acceptance.specs.Refusal.{length_test, data_refusal, refusal}
use Rattle.manual.specs.Program.{Program, under_manual}
use Rattle.operations.specs.Run.{run_refusal}

pub record Passed (s : List ℕ) (p : Program) : Type 0 where
  pub accepted : refusal s p.regular p.alternate ≡ 0
  pub table : table_test p.table ≡ true

module _ (s : List ℕ) (p : Program) where
  abbrev lent : ℕ
  lent = procedure_refusal p.regular p.alternate

  abbrev rest : ℕ
  rest = data_refusal s p.regular p.alternate

  pub run-passes : run_refusal s p ≡ 0 → Passed s p
  unfolding run_refusal refusal
  run-passes e = by (length_test s) refl (eqb lent 0) refl (table_test p.table) refl e
    where
      by : (long : Bool) → length_test s ≡ long → (passes : Bool) → eqb lent 0 ≡ passes → (table : Bool) → table_test p.table ≡ table
          → cond long (cond passes (cond table rest 26) lent) 10 ≡ 0 → Passed s p
      by true l true r true t e = record { accepted = rw (l, r) e; table = t }
      by true l true r false t e = absurd (omega (arith, e))
      by true l false r table t e = absurd (eqb-false lent 0 r e)
      by false l passes r table t e = absurd (omega (arith, e))

-- "`run` is the same under the manual's table": 26 passes.
pub run-manual : (s regular alternate : List ℕ) → run_refusal s (under_manual regular alternate) ≡ refusal s regular alternate
unfolding run_refusal refusal table_test
run-manual s regular alternate = refl
