-- Numbers, records and a small file, by computation. Assumes nothing.
use Rattle.std.specs.Prelude.{◌≡◌, refl, [], ◌∷◌, Some, None}
use Rattle.imports.specs.Numbers.{groups_at, number_at, several_at}
use Rattle.imports.specs.Records.{load, run, ends, malformed, entry, imported_elements, imported_lengths, imported_load, imported_run, record_at, records_up_to, records_from, records_of}
use Rattle.imports.specs.Encoding.{encode_groups, encode_number, encode_record, encode_all}

pub record Examples : Type 0 where
  -- 300 is two groups, the low one first
  pub two : number_at (0xAC ∷ 0x02 ∷ []) 0 ≡ Some (300, 2)
  pub greatest : number_at (0xFF ∷ 0xFF ∷ 0xFF ∷ 0x7F ∷ []) 0 ≡ Some (268435455, 4)
  pub needless : number_at (0x80 ∷ 0x00 ∷ []) 0 ≡ None
  pub needless_later : number_at (0x81 ∷ 0x80 ∷ 0x00 ∷ []) 0 ≡ None
  pub fifth : number_at (0x80 ∷ 0x80 ∷ 0x80 ∷ 0x80 ∷ 0x01 ∷ []) 0 ≡ None
  pub cut : number_at (0x80 ∷ []) 0 ≡ None
  pub written : encode_number 300 ≡ 0xAC ∷ 0x02 ∷ []
  -- load 5, 6, 7 into global 9, load 300 into global 10, run 15; then what is no record
  pub file : records_of (0 ∷ 9 ∷ 1 ∷ 3 ∷ 5 ∷ 6 ∷ 7 ∷ 0 ∷ 10 ∷ 0 ∷ 0xAC ∷ 2 ∷ 1 ∷ 15 ∷ 2 ∷ [])
      ≡ entry 0 (load 9 (3 ∷ []) (5 ∷ 6 ∷ 7 ∷ [])) (entry 7 (load 10 [] (300 ∷ [])) (entry 12 (run 15) (malformed 14)))
  pub file_written : encode_all (load 9 (3 ∷ []) (5 ∷ 6 ∷ 7 ∷ []) ∷ run 15 ∷ []) ≡ 0 ∷ 9 ∷ 1 ∷ 3 ∷ 5 ∷ 6 ∷ 7 ∷ 1 ∷ 15 ∷ []
  -- nothing is no test; a load of no elements
  pub none : records_of [] ≡ ends
  pub empty : records_of (0 ∷ 8 ∷ 1 ∷ 0 ∷ []) ≡ entry 0 (load 8 (0 ∷ []) []) ends

examples : Examples
unfolding groups_at number_at several_at imported_elements imported_lengths imported_load imported_run record_at records_up_to records_from encode_groups encode_number encode_record
examples = record {
  two = refl;
  greatest = refl;
  needless = refl;
  needless_later = refl;
  fifth = refl;
  cut = refl;
  written = refl;
  file = refl;
  file_written = refl;
  none = refl;
  empty = refl;
}
