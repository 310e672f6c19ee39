-- A segment with one function, and what the definitions say of it; then the same segment with one thing wrong.
-- Nothing rests on this file. Assumes nothing.
use Rattle.std.specs.Prelude.{◌≡◌, refl, true, false, List, [], ◌∷◌, ℕ, set, Some}
use Rattle.procedure.specs.Bytes.{half_at, word_at}
use Rattle.procedure.specs.Headers.{header_at, block_at, line_of}
use Rattle.procedure.specs.Directory.{has_function, in_directory, nargs_of, result_of}
use Rattle.procedure.specs.Refusal.{segment_length_test, entries_test, header_test, function_passes, functions_pass, contents_test, procedure_refusal}

-- Two entries; function 1 at word 2, 4 words long: RESULT, one argument, one line, one local, one word of code; line 1 at byte 8.
abbrev sample : List ℕ
sample =
    0x00 ∷ 0x00 ∷ 0x00 ∷ 0x02
    ∷ 0x00 ∷ 0x02 ∷ 0x00 ∷ 0x04
    ∷ 0x20 ∷ 0x01 ∷ 0x00 ∷ 0x01
    ∷ 0x00 ∷ 0x01 ∷ 0x00 ∷ 0x01
    ∷ 0x3F ∷ 0x91 ∷ 0x3E ∷ 0xB0
    ∷ 0x00 ∷ 0x08 ∷ 0x00 ∷ 0x00
    ∷ []

accepted : procedure_refusal sample sample ≡ 0
unfolding procedure_refusal segment_length_test contents_test entries_test functions_pass function_passes header_test header_at word_at
accepted = refl

present : in_directory true [] sample 1 ≡ true
unfolding has_function word_at
present = refl

absent : in_directory false [] sample 1 ≡ false
unfolding has_function word_at
absent = refl

arguments : nargs_of sample 1 ≡ 1
unfolding header_at word_at
arguments = refl

result : result_of sample 1 ≡ true
unfolding header_at word_at
result = refl

first-line : line_of sample (block_at sample 2) 1 ≡ Some (record { 0 = 8 })
unfolding line_of header_at word_at half_at
first-line = refl

-- Too short by two bytes; RESULT without a local; a block that starts in the directory.
cut : procedure_refusal sample (0x00 ∷ 0x00 ∷ []) ≡ 11
unfolding procedure_refusal segment_length_test
cut = refl

no_local : procedure_refusal sample (set sample 13 0x00) ≡ 12
unfolding procedure_refusal segment_length_test contents_test entries_test functions_pass function_passes header_test header_at word_at
no_local = refl

in-directory : procedure_refusal (set sample 5 0x01) sample ≡ 12
unfolding procedure_refusal segment_length_test contents_test entries_test functions_pass function_passes header_test header_at word_at
in-directory = refl
