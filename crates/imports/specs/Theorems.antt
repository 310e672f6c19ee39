-- What is read is what was written, and nothing else reads so: each number below 2^28 and each record has one encoding, and a
-- record ends where the next begins. Proved in proofs/Theorem. Assumes nothing.
use Rattle.std.specs.Prelude.{ℕ, ◌+◌, ◌-◌, ◌^◌, ◌<◌, ◌≤◌, ◌≡◌, Some, List, ◌++◌, length, take, drop}
use Rattle.segment.specs.Lent.{Bytes}
use Rattle.imports.specs.Numbers.{number_at}
use Rattle.imports.specs.Records.{Record, found, record_at, records_of}
use Rattle.imports.specs.Encoding.{encode_number, encode_record, encode_all, Writable, AllWritable, placed_from}

-- The bytes of a file from one place up to another.
abbrev pub between : List ℕ → ℕ → ℕ → List ℕ
between file from to = take (to - from) (drop from file)

pub record ImportsTheorems : Type 0 where
  -- what the encoder writes is read back, whatever stands before and after it
  pub reads_back : (before after : List ℕ) (n : ℕ) → n < 2 ^ 28
      → number_at (before ++ (encode_number n ++ after)) (length before) ≡ Some (n, length before + length (encode_number n))
  -- one encoding for each number below 2^28: bytes that are read as a number are those that the encoder writes for it
  pub one_encoding : (file : List ℕ) → Bytes file → (place n next : ℕ) → number_at file place ≡ Some (n, next)
      → (n < 2 ^ 28) × (between file place next ≡ encode_number n) × (next ≡ place + length (encode_number n)) × (next ≤ length file)
  -- the same of records
  pub record_reads_back : (before after : List ℕ) (r : Record) → Writable r
      → record_at (before ++ (encode_record r ++ after)) (length before) ≡ found r (length before + length (encode_record r))
  pub one_record : (file : List ℕ) → Bytes file → (place : ℕ) (r : Record) (next : ℕ) → record_at file place ≡ found r next
      → Writable r × (between file place next ≡ encode_record r) × (next ≡ place + length (encode_record r)) × (next ≤ length file)
  -- a record ends where the next begins
  pub file : (rs : List Record) → AllWritable rs → records_of (encode_all rs) ≡ placed_from 0 rs
