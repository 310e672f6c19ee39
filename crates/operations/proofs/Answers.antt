-- No test has the number 0, so that a status tells the whole answer.
use Prim.Native.Nat.{ℕ}
use mathlib.Core.Path.{◌≡◌, sym, ap, ◌∙◌}
use Rattle.std.proofs.Common.{Result, Ok, Err}
use borrow.Author.Tests.{ne_eqb}
use native.Mathlib.Omega.{arith}
use Rattle.acceptance.specs.declared.Test.{Test}
use Rattle.acceptance.specs.declared.Test.TheVariants as T
use Rattle.acceptance.specs.Answer.{number_of_test}
use Rattle.operations.specs.declared.Refusal.{Refusal}
use Rattle.operations.specs.declared.Refusal.TheVariants as F
use Rattle.operations.specs.Answers.{number_of, numbered, done_or_refused, status_of}

test-nonzero : (test : Test) → number_of_test test ≡ 0 → ⊥
test-nonzero T.Length e = omega (arith, e)
test-nonzero T.ProcedureLength e = omega (arith, e)
test-nonzero T.Procedures e = omega (arith, e)
test-nonzero T.StateWords e = omega (arith, e)
test-nonzero T.Blocks e = omega (arith, e)
test-nonzero T.Ring e = omega (arith, e)
test-nonzero T.Frames e = omega (arith, e)
test-nonzero T.Cells e = omega (arith, e)
test-nonzero T.Counts e = omega (arith, e)

pub nonzero : (refusal : Refusal) → number_of refusal ≡ 0 → ⊥
nonzero (F.Test test) e = test-nonzero test e
nonzero F.Parts e = omega (arith, e)
nonzero F.Function e = omega (arith, e)
nonzero F.Global e = omega (arith, e)
nonzero F.Undefined e = omega (arith, e)
nonzero F.Value e = omega (arith, e)
nonzero F.Full e = omega (arith, e)
nonzero F.Table e = omega (arith, e)

pub by-status : (answer : Result (Unit {0}) Refusal) {number : ℕ} → status_of (numbered answer) ≡ number → numbered answer ≡ done_or_refused number
by-status (Ok tt) e = ap done_or_refused e
by-status (Err refusal) e = sym (rw (ne_eqb (number_of refusal) 0 (nonzero refusal))) ∙ ap done_or_refused e
