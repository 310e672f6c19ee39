-- Numbers of runs, of replays, of sheets, and of looks at the segment of example M2: the vector 0 1 2 3 4 in the block at 25. Nothing
-- rests on this file. Assumes nothing.
use Rattle.std.specs.Prelude.{ℕ, ◌+◌, ◌*◌, ◌^◌, ◌≡◌, refl, List, [], ◌∷◌, set, Ok, Err}
use Rattle.descriptor.specs.Kinds.{segment}
use Rattle.segment.specs.Parts.{within, shape_part, elements_part}
use Rattle.storage.specs.Ring.{clear_prev_free}
use Rattle.storage.specs.Request.{find_from, find, split, give, given, request_at, request}
use Rattle.storage.specs.Arrays.{fill, place_at, place}
use Rattle.segment.specs.State.{set_rover}
use Rattle.storage.specs.Examples.{fresh}
use Rattle.effects.specs.declared.Ran.TheVariants as run
use Rattle.storage_sheet.specs.Sheet.{sheet_with}
use Rattle.operations.specs.Answers.{Halted, Malformed}
use Rattle.operations.specs.declared.Looked.TheVariants.{Scalar, Array}
use Rattle.crms_export.specs.Numbers.{run_number, replay_number, look_number, sheet_counts}

abbrev held : List ℕ
held = set (place fresh (5 ∷ []) (0 ∷ 1 ∷ 2 ∷ 3 ∷ 4 ∷ [])) 8 0x0200_0019

-- The block's two words, one length, then the elements from 28 up.
pub array : look_number held 8 (Ok (Array (segment 25))) ≡ 1 * 2 ^ 28 + 28 * 2 ^ 14 + 5
unfolding place place_at request_at request find find_from give given split clear_prev_free set_rover fill shape_part elements_part within
array = refl

pub others : (look_number held 9 (Ok (Scalar 7)) ≡ 9 * 2 ^ 14 + 1) × (look_number held 10 (Err 22) ≡ 22 * 2 ^ 32)
others = (refl, refl)

pub runs : (run_number (Ok (run.Done 5)) ≡ 0x2_0000_0005) × (run_number (Ok (run.Trapped 4)) ≡ 0x3_0000_0004) × (run_number (Err 16) ≡ 0x10_0000_0000)
runs = (refl, refl, refl)

pub replays : (replay_number (Ok tt) ≡ 0) × (replay_number (Err (Halted 3 12)) ≡ 0x3_0000_000C) × (replay_number (Err (Malformed 14)) ≡ 0x19_0000_000E)
replays = (refl, refl, refl)

pub sheets : (sheet_counts (Ok (sheet_with 8 0 13 3 24)) (1 ∷ 2 ∷ 3 ∷ 4 ∷ 5 ∷ []) ≡ 8 ∷ 0 ∷ 13 ∷ 3 ∷ 24 ∷ [])
    × (sheet_counts (Err 14) (1 ∷ 2 ∷ 3 ∷ 4 ∷ 5 ∷ []) ≡ 1 ∷ 2 ∷ 3 ∷ 4 ∷ 5 ∷ [])
sheets = (refl, refl)
