-- Numbers, records and files that were written are read back.
use Prim.Native.Nat.{ℕ, suc, ◌+◌, ◌≤◌}
use native.Mathlib.Omega.{arith}
use mathlib.Core.Path.{◌≡◌, refl, sym, ap, ◌∙◌}
use mathlib.Core.List.{List, [], ◌∷◌, ◌++◌, append_assoc}
use lib.ListN.{length}
use borrow.Author.Tests.{le-ltb}
use Rattle.descriptor.specs.Fields.{integer_limit}
use Rattle.imports.specs.Numbers.{numbers, several_at, and_more}
use Rattle.imports.specs.Records.{Record, load, run, found, entry, number_limit, imported_elements, imported_lengths, imported_load, imported_run, record_at, records_from}
use Rattle.imports.specs.Encoding.{encode_number, encode_numbers, encode_record, encode_all, AtMost, Loadable, Writable, AllWritable, placed_from}
use Rattle.imports.proofs.Several.{one_more}
use Rattle.imports.proofs.Parsing.{with-elements, loads, runs}
use Rattle.imports.proofs.Ends.{record-passes}
use Rattle.imports.proofs.Files.{no_more, one-record}
use Rattle.imports.proofs.Standing.{Fills, first-fills, second-fills}
use Rattle.imports.proofs.Encodings.{number-back}

-- ---- several numbers

pub numbers-append : (some others : List ℕ) → encode_numbers (some ++ others) ≡ encode_numbers some ++ encode_numbers others
numbers-append [] others = refl
numbers-append (n ∷ some) others =
    ap (λ (rest : List ℕ). encode_number n ++ rest) (numbers-append some others) ∙ sym (append_assoc (encode_number n) (encode_numbers some) (encode_numbers others))

module _ (file : List ℕ) where
  numbers-back : (limit : ℕ) → limit ≤ number_limit → (ns : List ℕ) → AtMost limit ns → (place next : ℕ) → Fills file place next (encode_numbers ns)
      → several_at limit (length ns) file place ≡ numbers ns next
  unfolding several_at
  numbers-back limit small [] most place next fills = ap (numbers []) (omega (arith, fills.end))
  numbers-back limit small (n ∷ ns) most place next fills =
      let middle = place + length (encode_number n) in
      one_more limit (length ns) file place n middle
      (number-back file place n middle (omega (arith, most 0)) (first-fills file (encode_number n) (encode_numbers ns) place next fills)) (most 0)
      ∙ ap (and_more n) (numbers-back limit small ns (λ i. most (suc i)) middle next (second-fills file (encode_number n) (encode_numbers ns) place next fills))

  -- ---- a record

  module _ {global : ℕ} {lengths ravel : List ℕ} (fits : Loadable global lengths ravel) where
    elements-back : (place next : ℕ) → Fills file place next (encode_numbers ravel) → imported_elements file place global lengths ≡ found (load global lengths ravel) next
    elements-back place next fills =
        sym (with-elements file place global lengths (length ravel) (omega (arith, fits.counted, fits.few)) fits.few ravel next
        (sym (numbers-back integer_limit (omega arith) ravel fits.integers place next fills)))

    lengths-back : (place next : ℕ) → Fills file place next (encode_numbers (lengths ++ ravel))
        → imported_lengths file place global (length lengths) ≡ found (load global lengths ravel) next
    unfolding imported_lengths
    lengths-back place next fills =
        let parts = rw (numbers-append lengths ravel) at fills in
        let middle = place + length (encode_numbers lengths) in
        simp (
          le-ltb 15 (length lengths) fits.rank,
          numbers-back number_limit (omega arith) lengths fits.lengths_fit place middle (first-fills file (encode_numbers lengths) (encode_numbers ravel) place next parts),
        )
        (elements-back middle next (second-fills file (encode_numbers lengths) (encode_numbers ravel) place next parts))

    load-back : (place next : ℕ) → Fills file place next (encode_numbers (global ∷ length lengths ∷ (lengths ++ ravel)))
        → imported_load file place ≡ found (load global lengths ravel) next
    unfolding imported_load
    load-back place next fills =
        let others = encode_numbers (length lengths ∷ (lengths ++ ravel)) in
        let after = second-fills file (encode_number global) others place next fills in
        let second = place + length (encode_number global) in
        let third = second + length (encode_number (length lengths)) in
        simp (
          number-back file place global second (omega (arith, fits.address)) (first-fills file (encode_number global) others place next fills),
          number-back file second (length lengths) third (omega (arith, fits.rank)) (first-fills file (encode_number (length lengths)) (encode_numbers (lengths ++ ravel)) second next after),
        )
        (lengths-back third next (second-fills file (encode_number (length lengths)) (encode_numbers (lengths ++ ravel)) second next after))

  run-back : (budget : ℕ) → budget ≤ number_limit → (place next : ℕ) → Fills file place next (encode_numbers (budget ∷ [])) → imported_run file place ≡ found (run budget) next
  unfolding imported_run
  run-back budget fits place next fills =
      let middle = place + length (encode_number budget) in
      let none = second-fills file (encode_number budget) [] place next fills in
      simp (number-back file place budget middle (omega arith) (first-fills file (encode_number budget) [] place next fills)) (ap (found (run budget)) (omega (arith, none.end)))

  pub record-back : (r : Record) → Writable r → (place next : ℕ) → Fills file place next (encode_record r) → record_at file place ≡ found r next
  unfolding encode_record
  record-back (load global lengths ravel) fits place next fills =
      let others = encode_numbers (global ∷ length lengths ∷ (lengths ++ ravel)) in
      let middle = place + length (encode_number 0) in
      sym (loads file place 0 middle (number-back file place 0 middle (omega arith) (first-fills file (encode_number 0) others place next fills)) refl)
      ∙ load-back fits middle next (second-fills file (encode_number 0) others place next fills)
  record-back (run budget) fits place next fills =
      let others = encode_numbers (budget ∷ []) in
      let middle = place + length (encode_number 1) in
      sym (runs file place 1 middle (number-back file place 1 middle (omega arith) (first-fills file (encode_number 1) others place next fills)) (λ one. omega arith) refl)
      ∙ run-back budget fits middle next (second-fills file (encode_number 1) others place next fills)

  -- ---- a file

  pub file-back : (rs : List Record) → AllWritable rs → (place : ℕ) → Fills file place (length file) (encode_all rs) → records_from file place ≡ placed_from place rs
  file-back [] fits place fills = no_more file place (omega (arith, fills.end))
  file-back (r ∷ rs) fits place fills =
      let next = place + length (encode_record r) in
      let here = record-back r fits.0 place next (first-fills file (encode_record r) (encode_all rs) place (length file) fills) in
      let rest = second-fills file (encode_record r) (encode_all rs) place (length file) fills in
      one-record file place (omega (arith, record-passes file place r next here, rest.end)) r next here
      ∙ ap (entry place r) (file-back rs fits.1 next rest)
