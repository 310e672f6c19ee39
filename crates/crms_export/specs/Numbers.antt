-- What a run, a replay and a look answer as one number, and a sheet as five, for callers from C and Rust; include/crms.h takes the
-- first apart. Statuses are document 01's numbers. A reader must believe: which bits of the number, and which of the five, stand for
-- what. Assumes nothing.
use Rattle.std.specs.Prelude.{ℕ, ◌+◌, ◌*◌, ◌%◌, ◌^◌, List, [], ◌∷◌, length, Result, Ok, Err}
use Rattle.segment.specs.Parts.{shape_part, elements_part}
use Rattle.storage_sheet.specs.declared.Sheet.{Sheet}
use Rattle.effects.specs.declared.Ran.{Ran}
use Rattle.operations.specs.declared.Looked.{Looked}
use Rattle.operations.specs.declared.Looked.TheVariants.{Scalar, Array}
use Rattle.operations.specs.Answers.{Stop, run_status, steps_of, replay_status, replay_place}

-- The status from bit 32, the instructions that finished below it.
abbrev pub run_number : Result Ran ℕ → ℕ
run_number answer = run_status answer * 2 ^ 32 + steps_of answer

-- The status from bit 32, the low 32 bits of the place below it: all of it in a file of at most 2^32 bytes.
abbrev pub replay_number : Result (Unit {0}) Stop → ℕ
replay_number answer = replay_status answer * 2 ^ 32 + replay_place answer % 2 ^ 32

-- The status from bit 32, the rank in bits 31–28, the address of the first element word in bits 27–14, how many there are in
-- bits 13–0.
abbrev pub fields : ℕ → ℕ → ℕ → ℕ → ℕ
fields status rank first count = status * 2 ^ 32 + rank * 2 ^ 28 + first * 2 ^ 14 + count

-- What is seen in global g of segment s. A scalar is the one word of its global; an array's elements follow its lengths, which
-- follow the two words of its block.
abbrev pub look_number : List ℕ → ℕ → Result Looked ℕ → ℕ
look_number s g (Err number) = fields number 0 0 0
look_number s g (Ok (Scalar w)) = fields 0 0 g 1
look_number s g (Ok (Array block)) =
    fields 0 (length (shape_part s block.0)) (block.0 + 2 + length (shape_part s block.0)) (length (elements_part s block.0))

-- The five counts after a sheet, which were `old`: in the paper's order; as they were where it is refused.
abbrev pub sheet_counts : Result Sheet ℕ → List ℕ → List ℕ
sheet_counts (Ok sums) old = sums.arrays ∷ sums.slop ∷ sums.free ∷ sums.end ∷ sums.total ∷ []
sheet_counts (Err number) old = old
