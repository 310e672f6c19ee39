-- What was read of a line can be written, and what was written is read back.
use Prim.Native.Nat.{ℕ, ◌≤◌}
use native.Mathlib.Omega.{arith}
use mathlib.Core.Path.{◌≡◌, sym, ap, ◌∙◌}
use mathlib.Core.List.{List}
use lib.ListN.{length, take}
use lib.Seq.{length-take-le}
use Rattle.descriptor.specs.Fields.{integer_limit}
use Rattle.imports.specs.Records.{element_limit, number_limit}
use Rattle.imports.specs.Encoding.{encode_record, AtMost}
use Rattle.imports.proofs.Theorem.{imports-theorems}
use Rattle.std.proofs.Common.{Result, Ok}
use Rattle.write_imports.specs.declared.wrong.Refused.{Refused}
use Rattle.write_imports.specs.Lines.{Room, Short, Encoded, Writes, ReadBack}

-- the part in front
pub cut : (n : ℕ) (l : List ℕ) → n ≤ length l → n ≡ length (take n l)
cut n l h = sym (length-take-le n l h)

-- as many lengths and elements as there is room for
pub short : (global rank count : ℕ) (lengths ravel : List ℕ) → global ≤ number_limit → length lengths ≡ 15 → length ravel ≡ element_limit
    → (rank ≤ length lengths) × AtMost number_limit (take rank lengths) → (count ≤ length ravel) × AtMost integer_limit (take count ravel)
    → Short global (take rank lengths) (take count ravel)
short global rank count lengths ravel g fifteen most ls rs = record {
  address = g;
  rank = omega (arith, cut rank lengths ls.0, ls.0, fifteen);
  lengths_fit = ls.1;
  few = omega (arith, cut count ravel rs.0, rs.0, most);
  integers = rs.1;
}

pub room-kept : {lengths ravel out later : List ℕ} → Room lengths ravel out → length later ≡ length lengths → Room later ravel out
room-kept room e = record { ranks = e ∙ room.ranks; elements = room.elements; bytes = room.bytes }

pub encoded : (n : ℕ) (out : List ℕ) {r : Result ℕ Refused} → r ≡ Ok n → Writes r out → Encoded n out
encoded n out e w = rw e at w

pub read_back : ReadBack
read_back n out e before after =
    let long : length (encode_record e.written) ≡ n = sym (ap length e.bytes) ∙ length-take-le n out e.within in
    rw (e.bytes, ← long) (imports-theorems.record_reads_back before after e.written e.writable)
