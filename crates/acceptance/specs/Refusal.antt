-- The table of document 01 for a data segment with its procedure segments: the first test that fails, or 0 where all pass.
-- Tests go in table order. Assumes nothing.
use Rattle.std.specs.Prelude.{ℕ, Bool, cond, ◌&&◌, List, length, leb, eqb}
use Rattle.procedure.specs.Refusal.{procedure_refusal}
use Rattle.acceptance_storage.specs.Head.{head_test}
use Rattle.acceptance_storage.specs.Blocks.{blocks_test}
use Rattle.acceptance_storage.specs.Ring.{ring_test}
use Rattle.acceptance.specs.Frames.{frames_test}
use Rattle.acceptance.specs.Cells.{cells_test}
use Rattle.acceptance.specs.Counts.{counts_test}

-- Test 10: 32 to 16,384 words.
abbrev pub length_test : List ℕ → Bool
length_test s = leb 32 (length s) && leb (length s) 16384

-- Tests 13–18.
unfoldable pub data_refusal : List ℕ → List ℕ → List ℕ → ℕ
data_refusal s regular alternate =
    cond (head_test s)
    (cond (blocks_test s)
    (cond (ring_test s) (cond (frames_test s regular alternate) (cond (cells_test s regular alternate) (cond (counts_test s) 0 18) 17) 16) 15)
    14)
    13

unfoldable pub refusal : List ℕ → List ℕ → List ℕ → ℕ
refusal s regular alternate =
    cond (length_test s)
    (cond (eqb (procedure_refusal regular alternate) 0) (data_refusal s regular alternate) (procedure_refusal regular alternate))
    10
