-- Example M1 of document 01, and refusals of lay out, by computation. Nothing rests on this file. Assumes nothing.
use Rattle.std.specs.Prelude.{ℕ, ◌≡◌, refl, List, [], ◌∷◌, get_or, set, replicate}
use Rattle.procedure.specs.Bytes.{word_at}
use Rattle.procedure.specs.Headers.{header_at}
use Rattle.procedure.specs.Directory.{has_function}
use Rattle.procedure.specs.Refusal.{segment_length_test, entries_test, header_test, function_passes, functions_pass, contents_test, procedure_refusal}
use Rattle.storage.specs.Examples as storage
use Rattle.fresh_segment.specs.LayOut.{Layout, layout, function_test, parts_test, lay_out_refusal, fresh_storage, fresh_frame, fresh_head, fresh, laid_out}

-- Function 1 has a local and no argument, function 2 an argument and no local; each has one word of code.
abbrev pub sample : List ℕ
sample =
    0x00 ∷ 0x00 ∷ 0x00 ∷ 0x03
    ∷ 0x00 ∷ 0x03 ∷ 0x00 ∷ 0x03
    ∷ 0x00 ∷ 0x06 ∷ 0x00 ∷ 0x03
    ∷ 0x00 ∷ 0x00 ∷ 0x00 ∷ 0x00
    ∷ 0x00 ∷ 0x01 ∷ 0x00 ∷ 0x01
    ∷ 0x3F ∷ 0x91 ∷ 0x3E ∷ 0xB0
    ∷ 0x00 ∷ 0x01 ∷ 0x00 ∷ 0x00
    ∷ 0x00 ∷ 0x00 ∷ 0x00 ∷ 0x01
    ∷ 0x3F ∷ 0x91 ∷ 0x3E ∷ 0xB0
    ∷ []

-- Function 1 of the regular procedure segment, 4 globals, 24 array words.
abbrev pub asked : Layout
asked = layout 0 1 4 24

-- M1: 64 words, 4 globals, 24 array words, one local. `whole`: the segment with which the examples of requests begin.
pub record M1 (s : List ℕ) : Type 0 where
  pub word0 : get_or s 0 0 ≡ 0x0024_0002
  pub word1 : get_or s 1 0 ≡ 0x0001_000C
  pub word12 : get_or s 12 0 ≡ 0x8000_0015
  pub word13 : get_or s 13 0 ≡ 0x0021_0021
  pub word33 : get_or s 33 0 ≡ 0x4000_0000
  pub word34 : get_or s 34 0 ≡ 0x000C_000C
  pub whole : s ≡ storage.fresh

pub m1 : M1 (fresh 64 1 0x0001_0008 asked)
unfolding fresh fresh_head fresh_storage fresh_frame
m1 = record { word0 = refl; word1 = refl; word12 = refl; word13 = refl; word33 = refl; word34 = refl; whole = refl }

-- Of 64 lent words, whatever stood in them.
pub m1-laid : M1 (laid_out (replicate 64 0x1234_5678) sample sample asked)
unfolding laid_out lay_out_refusal function_test parts_test fresh fresh_head fresh_storage fresh_frame has_function header_at word_at procedure_refusal segment_length_test contents_test entries_test functions_pass function_passes header_test
m1-laid = record { word0 = refl; word1 = refl; word12 = refl; word13 = refl; word33 = refl; word34 = refl; whole = refl }

-- What is refused, of lent words that are zero.
abbrev refusal_of : ℕ → ℕ → ℕ → ℕ → ℕ → ℕ
refusal_of n selector function globals array_words =
    lay_out_refusal (replicate n 0) sample sample (layout selector function globals array_words)

pub record Refusals : Type 0 where
  pub words : refusal_of 31 0 1 4 24 ≡ 10
  pub segment_length : lay_out_refusal (replicate 64 0) sample (0x00 ∷ 0x00 ∷ []) asked ≡ 11
  -- bit 24 of function 1's header
  pub contents : lay_out_refusal (replicate 64 0) (set sample 12 0x01) sample asked ≡ 12
  pub selector : refusal_of 64 2 1 4 24 ≡ 20
  pub absent : refusal_of 64 0 3 4 24 ≡ 20
  pub arguments : refusal_of 64 0 2 4 24 ≡ 20
  pub globals : refusal_of 64 0 1 4089 24 ≡ 19
  pub array_words : refusal_of 64 0 1 4 5 ≡ 19
  -- 8 state words, 4 globals, 49 array words, a local and the frame's two words are 64
  pub parts : refusal_of 64 0 1 4 50 ≡ 19
  pub exact : refusal_of 64 0 1 4 49 ≡ 0
  pub least : refusal_of 32 1 1 0 6 ≡ 0
  pub function_first : refusal_of 64 0 3 4089 5 ≡ 20

pub refusals : Refusals
unfolding lay_out_refusal function_test parts_test has_function header_at word_at procedure_refusal segment_length_test contents_test entries_test functions_pass function_passes header_test
refusals =
    record {
      words = refl;
      segment_length = refl;
      contents = refl;
      selector = refl;
      absent = refl;
      arguments = refl;
      globals = refl;
      array_words = refl;
      parts = refl;
      exact = refl;
      least = refl;
      function_first = refl;
    }
