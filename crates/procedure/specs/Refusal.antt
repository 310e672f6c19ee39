-- Tests 11 and 12 of document 01's table, with decision 11 of docs/DECISIONS.md: whether a procedure segment passes.
-- A reader must believe: each line is a sentence of "Procedure segment". Assumes nothing.
use Rattle.std.specs.Prelude.{ℕ, zero, suc, ◌+◌, ◌-◌, ◌*◌, ◌/◌, ◌%◌, Bool, true, cond, ◌&&◌, List, length, leb, eqb, Result, Ok, Err, ⊤}
use Rattle.procedure.specs.declared.header.Header.{Header}
use Rattle.procedure.specs.declared.refusal.Refusal.{Refusal}
use Rattle.procedure.specs.declared.refusal.Refusal.TheVariants as R
use Rattle.procedure.specs.Bytes.{word_at}
use Rattle.procedure.specs.Headers.{unnamed_bits}
use Rattle.procedure.specs.Directory.{start_of, length_of, entries, header_of_function, nargs_of, nlocals_of, result_of}

-- Test 11: 4 to 32,768 bytes, whole words.
unfoldable pub segment_length_test : List ℕ → Bool
segment_length_test p = leb 4 (length p) && leb (length p) 32768 && eqb (length p % 4) 0

-- Entry 0 is 0 and the number of entries: functions are numbered from 1, to at most 2,047. The directory lies in the segment.
unfoldable pub entries_test : List ℕ → Bool
entries_test p = eqb (start_of p 0) 0 && leb 1 (entries p) && leb (entries p) 2048 && leb (4 * entries p) (length p)

-- The length is 2 + NCODE + NLINES/2 rounded up.
abbrev pub block_length : Header → ℕ
block_length h = 2 + h.ncode + (h.nlines + 1) / 2

-- RESULT needs NLOCALS at least 1.
abbrev pub result_has_local : Bool → ℕ → Bool
result_has_local result nlocals = cond result (leb 1 nlocals) true

-- Function k's header: bits not named are zero, NARGS to 15, NARGS + NLOCALS at most 4,096.
unfoldable pub header_test : List ℕ → ℕ → Bool
header_test p k =
    eqb (length_of p k) (block_length (header_of_function p k))
    && eqb (unnamed_bits (word_at p (4 * start_of p k))) 0
    && leb (nargs_of p k) 15
    && result_has_local (result_of p k) (nlocals_of p k)
    && leb (nargs_of p k + nlocals_of p k) 4096

-- It lies in the segment after the directory.
unfoldable pub function_passes : List ℕ → ℕ → Bool
function_passes p k = leb (entries p) (start_of p k) && leb (4 * (start_of p k + length_of p k)) (length p) && header_test p k

-- The n functions from number k on.
unfoldable pub functions_pass : ℕ → List ℕ → ℕ → Bool
functions_pass zero p k = true
functions_pass (suc n) p k = let others = functions_pass n p (k + 1) in function_passes p k && others

-- Test 12: the directory and every header.
unfoldable pub contents_test : List ℕ → Bool
contents_test p = entries_test p && functions_pass (entries p - 1) p 1

-- 11 covers both segments' lengths before 12 covers either's contents.
unfoldable pub procedure_refusal : List ℕ → List ℕ → ℕ
procedure_refusal regular alternate =
    cond (segment_length_test regular && segment_length_test alternate)
    (cond (contents_test regular && contents_test alternate) 0 12)
    11

-- The number of the answer.
abbrev pub refusal_number : Result ⊤ Refusal → ℕ
refusal_number (Ok passed) = 0
refusal_number (Err R.Length) = 11
refusal_number (Err R.Contents) = 12
