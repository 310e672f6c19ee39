-- Two segments pass the tests 11 and 12 exactly when both are as Accepted has it.
use mathlib.Core.Path.{◌≡◌, refl, sym, subst}
use mathlib.Core.Bool.{Bool, true, false, cond}
use mathlib.Core.List.{List}
use Prim.Native.Nat.{ℕ, zero, suc, ◌+◌, ◌-◌, ◌≤◌, ◌<◌}
use native.Mathlib.Omega.{arith}
use lib.Dec.{eqb}
use borrow.Author.Tests.{leb-true, eqb-true, eqb-false, le-leb, eq-eqb}
use Rattle.descriptor.proofs.Truth.{both}
use Rattle.procedure.specs.Directory.{entries, nlocals_of, result_of}
use Rattle.procedure.specs.Refusal.{segment_length_test, entries_test, result_has_local, header_test, function_passes, functions_pass, contents_test, procedure_refusal}
use Rattle.procedure.specs.Accepted.{FunctionFits, ProcedureSegment, Acceptance}

-- RESULT needs a local.
has-local : (result : Bool) (nlocals : ℕ) → result_has_local result nlocals ≡ true → result ≡ true → 1 ≤ nlocals
has-local true nlocals e r = leb-true 1 nlocals e
has-local false nlocals e r = let z : ◌≡◌ {A = ℕ} 0 1 = cc in absurd (omega (arith, z))

local-had : (result : Bool) (nlocals : ℕ) → (result ≡ true → 1 ≤ nlocals) → result_has_local result nlocals ≡ true
local-had true nlocals h = le-leb 1 nlocals (h refl)
local-had false nlocals h = refl

module _ (p : List ℕ) (k : ℕ) where
  function-fits : function_passes p k ≡ true → FunctionFits p k
  unfolding function_passes header_test
  function-fits e =
      let h = both _ _ e in
      let place = both _ _ h.0 in
      let variables = both _ _ h.1 in
      let local = both _ _ variables.0 in
      let arguments = both _ _ local.0 in
      let word = both _ _ arguments.0 in
      record {
        after-directory = leb-true _ _ place.0;
        in-segment = leb-true _ _ place.1;
        named-bits = eqb-true _ _ word.1;
        arguments = leb-true _ _ arguments.1;
        result-local = has-local (result_of p k) (nlocals_of p k) local.1;
        variables = leb-true _ _ variables.1;
        block-length = eqb-true _ _ word.0;
      }

  fits-function : FunctionFits p k → function_passes p k ≡ true
  unfolding function_passes header_test
  fits-function f =
      simp (
        le-leb _ _ f.after-directory,
        le-leb _ _ f.in-segment,
        eq-eqb _ _ f.block-length,
        eq-eqb _ _ f.named-bits,
        le-leb _ _ f.arguments,
        local-had (result_of p k) (nlocals_of p k) f.result-local,
        le-leb _ _ f.variables,
      )

functions-fit : (p : List ℕ) (n k : ℕ) → functions_pass n p k ≡ true → (j : ℕ) → k ≤ j → j < k + n → FunctionFits p j
unfolding functions_pass
functions-fit p zero k e j l h = absurd (omega arith)
functions-fit p (suc n) k e j l h = on (functions-fit p n (k + 1) others.1) (eqb j k) refl
  where
    others : (function_passes p k ≡ true) × (functions_pass n p (k + 1) ≡ true)
    others = both (function_passes p k) (functions_pass n p (k + 1)) e

    on : ((i : ℕ) → k + 1 ≤ i → i < k + 1 + n → FunctionFits p i) → (t : Bool) → eqb j k ≡ t → FunctionFits p j
    on later true i = subst (λ (m : ℕ). FunctionFits p m) (sym (eqb-true j k i)) (function-fits p k others.0)
    on later false i = let ne : j ≡ k → ⊥ = eqb-false j k i in later j (omega arith) (omega arith)

fit-functions : (p : List ℕ) (n k : ℕ) → ((j : ℕ) → k ≤ j → j < k + n → FunctionFits p j) → functions_pass n p k ≡ true
unfolding functions_pass
fit-functions p zero k f = refl
fit-functions p (suc n) k f =
    rw (fits-function p k (f k (omega arith) (omega arith)))
    (fit-functions p n (k + 1) (λ j l h. f j (omega arith) (omega arith)))

module _ (p : List ℕ) where
  accepted : segment_length_test p ≡ true → contents_test p ≡ true → ProcedureSegment p
  unfolding segment_length_test contents_test entries_test
  accepted e f =
      let words = both _ _ e in
      let long = both _ _ words.0 in
      let contents = both _ _ f in
      let inside = both _ _ contents.0 in
      let most = both _ _ inside.0 in
      let entry = both _ _ most.0 in
      let some : 1 ≤ entries p = leb-true _ _ entry.1 in
      record {
        shortest = leb-true _ _ long.0;
        longest = leb-true _ _ long.1;
        whole_words = eqb-true _ _ words.1;
        entry_zero = eqb-true _ _ entry.0;
        some-entries = some;
        most-entries = leb-true _ _ most.1;
        directory-inside = leb-true _ _ inside.1;
        functions = λ k l h. functions-fit p (entries p - 1) 1 contents.1 k l (omega arith);
      }

  passes-length : ProcedureSegment p → segment_length_test p ≡ true
  unfolding segment_length_test
  passes-length a = simp (le-leb _ _ a.shortest, le-leb _ _ a.longest, eq-eqb _ _ a.whole_words)

  passes-contents : ProcedureSegment p → contents_test p ≡ true
  unfolding contents_test entries_test
  passes-contents a =
      simp (
        eq-eqb _ _ a.entry_zero,
        le-leb _ _ a.some-entries,
        le-leb _ _ a.most-entries,
        le-leb _ _ a.directory-inside,
        fit-functions p (entries p - 1) 1 (λ j l h. a.functions j l (omega (arith, a.some-entries))),
      )

-- No number of the table stands where neither test refuses.
passed : (lengths contents : Bool) → ◌≡◌ {A = ℕ} (cond lengths (cond contents 0 12) 11) 0 → (lengths ≡ true) × (contents ≡ true)
passed true true e = (refl, refl)
passed true false e = absurd (omega (arith, e))
passed false contents e = absurd (omega (arith, e))

pub acceptance : (regular alternate : List ℕ) → Acceptance regular alternate
unfolding procedure_refusal
acceptance regular alternate = record { sound = sound; complete = complete }
  where
    sound : procedure_refusal regular alternate ≡ 0 → ProcedureSegment regular × ProcedureSegment alternate
    sound e =
        let tests = passed _ _ e in
        let lengths = both _ _ tests.0 in
        let contents = both _ _ tests.1 in
        (accepted regular lengths.0 contents.0, accepted alternate lengths.1 contents.1)

    complete : ProcedureSegment regular → ProcedureSegment alternate → procedure_refusal regular alternate ≡ 0
    complete r a =
        simp (passes-length regular r, passes-length alternate a, passes-contents regular r, passes-contents alternate a)
