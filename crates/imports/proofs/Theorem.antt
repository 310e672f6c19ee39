-- The theorems of specs/Theorems.
use Prim.Native.Nat.{ℕ, ◌+◌}
use native.Mathlib.Nat.{zero-add}
use mathlib.Core.Path.{◌≡◌}
use mathlib.Core.List.{List, [], ◌++◌, append-nil}
use lib.ListN.{length}
use Rattle.imports.specs.Encoding.{encode_number, encode_record, encode_all}
use Rattle.imports.specs.Theorems.{ImportsTheorems}
use Rattle.imports.proofs.Standing.{Fills, fills-put, fills-between, fills-inside}
use Rattle.imports.proofs.Encodings.{number-back, number-one}
use Rattle.imports.proofs.ReadBack.{record-back, file-back}
use Rattle.imports.proofs.OneEncoding.{record-one}

alone : (bytes : List ℕ) → Fills bytes 0 (length bytes) bytes
alone bytes = from (append-nil bytes) (zero-add (length bytes)) (fills-put bytes [] [])
  where
    from : {file : List ℕ} {next : ℕ} → file ≡ bytes → next ≡ length bytes → Fills file 0 next bytes → Fills bytes 0 (length bytes) bytes
    from same ended fills = rw (same, ended) at fills

pub imports-theorems : ImportsTheorems
imports-theorems =
    record {
      reads_back = λ before after n small.
          number-back (before ++ (encode_number n ++ after)) (length before) n (length before + length (encode_number n)) small (fills-put (encode_number n) before after);
      one_encoding = λ file bytes place n next read.
          let one = number-one file bytes place n next read in
          (one.0, fills-between file one.1, one.1.end, fills-inside file one.1);
      record_reads_back = λ before after r fits.
          record-back (before ++ (encode_record r ++ after)) r fits (length before) (length before + length (encode_record r)) (fills-put (encode_record r) before after);
      one_record = λ file bytes place r next read.
          let one = record-one file bytes place r next read in
          (one.0, fills-between file one.1, one.1.end, fills-inside file one.1);
      file = λ rs fits. file-back (encode_all rs) rs fits 0 (alone (encode_all rs));
    }
