-- What the tests 11 and 12 establish, as facts: the theorem says that two segments pass exactly when both are like this.
-- A reader may hold it beside "Procedure segment" in place of Refusal's order of tests. Assumes nothing.
use Rattle.std.specs.Prelude.{ℕ, ◌+◌, ◌*◌, ◌/◌, ◌%◌, ◌≤◌, ◌<◌, ◌≡◌, true, List, length}
use Rattle.procedure.specs.Bytes.{word_at}
use Rattle.procedure.specs.Headers.{unnamed_bits}
use Rattle.procedure.specs.Directory.{start_of, length_of, entries, nargs_of, nlocals_of, nlines_of, ncode_of, result_of}
use Rattle.procedure.specs.Refusal.{procedure_refusal}

pub record FunctionFits (p : List ℕ) (k : ℕ) : Type 0 where
  pub after-directory : entries p ≤ start_of p k
  pub in-segment : 4 * (start_of p k + length_of p k) ≤ length p
  pub named-bits : unnamed_bits (word_at p (4 * start_of p k)) ≡ 0
  pub arguments : nargs_of p k ≤ 15
  pub result-local : result_of p k ≡ true → 1 ≤ nlocals_of p k
  pub variables : nargs_of p k + nlocals_of p k ≤ 4096
  pub block-length : length_of p k ≡ 2 + ncode_of p k + (nlines_of p k + 1) / 2

pub record ProcedureSegment (p : List ℕ) : Type 0 where
  pub shortest : 4 ≤ length p
  pub longest : length p ≤ 32768
  pub whole_words : length p % 4 ≡ 0
  pub entry_zero : start_of p 0 ≡ 0
  pub some-entries : 1 ≤ entries p
  pub most-entries : entries p ≤ 2048
  pub directory-inside : 4 * entries p ≤ length p
  pub functions : (k : ℕ) → 1 ≤ k → k < entries p → FunctionFits p k

pub record Acceptance (regular alternate : List ℕ) : Type 0 where
  pub sound : procedure_refusal regular alternate ≡ 0 → ProcedureSegment regular × ProcedureSegment alternate
  pub complete : ProcedureSegment regular → ProcedureSegment alternate → procedure_refusal regular alternate ≡ 0
