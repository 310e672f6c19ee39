-- The first fault of a procedure segment, by name, which the disassembler says. That a segment has one exactly when a test of
-- Refusal fails is proved in proofs/Faults.antt, so no reader need believe this file for the tests. Assumes nothing.
use Rattle.std.specs.Prelude.{ℕ, zero, suc, ◌+◌, ◌-◌, ◌*◌, Bool, true, false, cond, List, length, leb, eqb, Result, Ok, Err, ⊤}
use Rattle.procedure.specs.declared.header.Header.{Header}
use Rattle.procedure.specs.declared.refusal.Fault.{Fault}
use Rattle.procedure.specs.declared.refusal.Fault.TheVariants as F
use Rattle.procedure.specs.declared.refusal.FunctionFault.TheVariants as W
use Rattle.procedure.specs.Bytes.{word_at}
use Rattle.procedure.specs.Headers.{unnamed_bits, header_at}
use Rattle.procedure.specs.Directory.{start_of, length_of, entries}
use Rattle.procedure.specs.Refusal.{segment_length_test, entries_test, block_length, result_has_local}

-- A fault where a test fails, else what is found further on.
abbrev pub unless : Bool → Fault → Result ⊤ Fault → Result ⊤ Fault
unless test wrong next = cond test next (Err wrong)

-- Function k's header, beside its word 0 and the length in the directory.
unfoldable pub header_fault : ℕ → Header → ℕ → ℕ → Result ⊤ Fault
header_fault k h word0 long =
    unless (eqb long (block_length h)) (F.Function k W.Length)
    (unless (eqb (unnamed_bits word0) 0) (F.Function k W.UnnamedBits)
    (unless (leb h.nargs 15) (F.Function k W.Arguments)
    (unless (result_has_local h.result h.nlocals) (F.Function k W.ResultLocal)
    (unless (leb (h.nargs + h.nlocals) 4096) (F.Function k W.Variables) (Ok tt)))))

unfoldable pub function_fault : List ℕ → ℕ → Result ⊤ Fault
function_fault p k =
    unless (leb (entries p) (start_of p k)) (F.Function k W.Start)
    (unless (leb (4 * (start_of p k + length_of p k)) (length p)) (F.Function k W.End)
    (header_fault k (header_at p (start_of p k)) (word_at p (4 * start_of p k)) (length_of p k)))

-- The first of two faults, where there is one.
abbrev pub or_else : Result ⊤ Fault → Result ⊤ Fault → Result ⊤ Fault
or_else (Ok sound) next = next
or_else (Err wrong) next = Err wrong

-- The n functions from number k on.
unfoldable pub functions_fault : ℕ → List ℕ → ℕ → Result ⊤ Fault
functions_fault zero p k = Ok tt
functions_fault (suc n) p k = let others = functions_fault n p (k + 1) in or_else (function_fault p k) others

unfoldable pub contents_fault : List ℕ → Result ⊤ Fault
contents_fault p = unless (entries_test p) F.Entries (functions_fault (entries p - 1) p 1)

unfoldable pub fault_of : List ℕ → Result ⊤ Fault
fault_of p = unless (segment_length_test p) F.SegmentLength (contents_fault p)

abbrev pub refuses : Result ⊤ Fault → Bool
refuses (Ok sound) = false
refuses (Err wrong) = true
