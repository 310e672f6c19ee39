-- Each number is read back as the refusal that it stands for, and each stop as the halt.
use Rattle.std.proofs.Common.{ℕ, ◌≡◌, refl, sym, ap, ◌∙◌, cond, eqb, false}
use Rattle.acceptance.specs.declared.Test.{Test}
use Rattle.acceptance.specs.declared.Test.TheVariants as T
use Rattle.operations.specs.declared.Refusal.{Refusal}
use Rattle.operations.specs.declared.Refusal.TheVariants as F
use Rattle.operations.specs.declared.Halt.{Halt}
use Rattle.operations.specs.declared.Halt.TheVariants as H
use Rattle.operations.specs.Answers.{number_of, Stop, Halted, Malformed, stop_of}
use Rattle.operations.specs.Refusals.{RefusalTheorems}
use Rattle.operations.proofs.Answers.{nonzero}

abbrev refusal-at : ℕ → Refusal
refusal-at n =
    cond (eqb n 10) (F.Test T.Length)
    (cond (eqb n 11) (F.Test T.ProcedureLength)
    (cond (eqb n 12) (F.Test T.Procedures)
    (cond (eqb n 13) (F.Test T.StateWords)
    (cond (eqb n 14) (F.Test T.Blocks)
    (cond (eqb n 15) (F.Test T.Ring)
    (cond (eqb n 16) (F.Test T.Frames)
    (cond (eqb n 17) (F.Test T.Cells)
    (cond (eqb n 18) (F.Test T.Counts)
    (cond (eqb n 19) F.Parts
    (cond (eqb n 20) F.Function
    (cond (eqb n 21) F.Global
    (cond (eqb n 22) F.Undefined
    (cond (eqb n 23) F.Value
    (cond (eqb n 24) F.Full F.Table))))))))))))))

abbrev halt-at : Stop → Halt
halt-at (Halted number place) = cond (eqb number 3) (H.Trapped place) (H.Refused (refusal-at number) place)
halt-at (Malformed place) = H.Malformed place

test-read : (t : Test) → refusal-at (number_of (F.Test t)) ≡ F.Test t
test-read T.Length = refl
test-read T.ProcedureLength = refl
test-read T.Procedures = refl
test-read T.StateWords = refl
test-read T.Blocks = refl
test-read T.Ring = refl
test-read T.Frames = refl
test-read T.Cells = refl
test-read T.Counts = refl

refusal-read : (r : Refusal) → refusal-at (number_of r) ≡ r
refusal-read (F.Test t) = test-read t
refusal-read F.Parts = refl
refusal-read F.Function = refl
refusal-read F.Global = refl
refusal-read F.Undefined = refl
refusal-read F.Value = refl
refusal-read F.Full = refl
refusal-read F.Table = refl

test-goes-on : (t : Test) → eqb (number_of (F.Test t)) 3 ≡ false
test-goes-on T.Length = refl
test-goes-on T.ProcedureLength = refl
test-goes-on T.Procedures = refl
test-goes-on T.StateWords = refl
test-goes-on T.Blocks = refl
test-goes-on T.Ring = refl
test-goes-on T.Frames = refl
test-goes-on T.Cells = refl
test-goes-on T.Counts = refl

no-trap : (r : Refusal) → eqb (number_of r) 3 ≡ false
no-trap (F.Test t) = test-goes-on t
no-trap F.Parts = refl
no-trap F.Function = refl
no-trap F.Global = refl
no-trap F.Undefined = refl
no-trap F.Value = refl
no-trap F.Full = refl
no-trap F.Table = refl

halt-read : (h : Halt) → halt-at (stop_of h) ≡ h
halt-read (H.Refused r place) = rw (no-trap r, refusal-read r)
halt-read (H.Trapped place) = refl
halt-read (H.Malformed place) = refl

pub refusal-theorems : RefusalTheorems
refusal-theorems = record {
  refusals_differ = λ a b same. sym (refusal-read a) ∙ ap refusal-at same ∙ refusal-read b;
  refusals_refuse = nonzero;
  halts_differ = λ a b same. sym (halt-read a) ∙ ap halt-at same ∙ halt-read b;
}
