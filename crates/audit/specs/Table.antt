-- The marked examples M1–M10 of document 01 as one table: a lay out, and runs of one to three instructions after it; and the sheet of
-- M1, as document 02 has it in paper 3, of M1 spoilt, of M2 and of M4. By computation from the definitions of the operations. Assumes nothing.
use Rattle.std.specs.Prelude.{ℕ, ◌+◌, ◌-◌, ◌≡◌, List, [], ◌∷◌, ◌++◌, get_or, length, replicate, set, Result, Ok, Err}
use Rattle.segment.specs.State.{sbase, ltop, rover, trap_word}
use Rattle.scalar.specs.Value.{units}
use Rattle.manual.specs.Program.{under_manual}
use Rattle.fresh_segment.specs.LayOut.{layout, laid_out}
use Rattle.storage_sheet.specs.Sheet.{sheet_with}
use Rattle.storage_sheet.specs.declared.Sheet.{Sheet}
use Rattle.operations.specs.Sheet.{sheeted}
use Rattle.effects.specs.declared.Ran.TheVariants.{Done, Trapped}
use Rattle.operations.specs.Run.{Ended, ran}

-- A procedure segment of one function that has no argument, a local and four words of code: these bytes, and then NO_OPERATION.
abbrev pub coded : List ℕ → List ℕ
coded code =
    (0 ∷ 0 ∷ 0 ∷ 2 ∷ 0 ∷ 2 ∷ 0 ∷ 6 ∷ 0 ∷ 0 ∷ 0 ∷ 0 ∷ 0 ∷ 1 ∷ 0 ∷ 4 ∷ [])
    ++ (code ++ replicate (16 - length code) 0xB2)

-- 64 words, whatever stood in them, laid out with 4 globals and 24 array words.
abbrev pub laid : List ℕ → List ℕ
laid code =
    laid_out (replicate 64 0x1234_5678) (coded code) (coded code)
    (layout 0 1 4 24)

-- A run of so many instructions after it.
abbrev pub ran_after : ℕ → List ℕ → Ended
ran_after budget code = ran (laid code) (under_manual (coded code) (coded code)) budget

-- The sheet of a segment beside this code.
abbrev pub sheet_beside : List ℕ → List ℕ → Result Sheet ℕ
sheet_beside code s = sheeted s (coded code) (coded code)

-- ---- the forms of the table

pub record Lays (s : List ℕ) : Type 0 where
  pub word0 : get_or s 0 0 ≡ 0x0024_0002
  pub word1 : get_or s 1 0 ≡ 0x0001_000C
  pub word12 : get_or s 12 0 ≡ 0x8000_0015
  pub word13 : get_or s 13 0 ≡ 0x0021_0021
  pub word33 : get_or s 33 0 ≡ 0x4000_0000
  pub word34 : get_or s 34 0 ≡ 0x000C_000C

-- So many instructions were done, and that word is on top of the stack.
pub record OnTop (e : Ended) (steps w : ℕ) : Type 0 where
  pub done : e.answer ≡ Ok (Done steps)
  pub top : get_or e.words (sbase e.words + ltop e.words) 0 ≡ w

-- INDEXGEN made an array: its descriptor, the first words of the free block at 12 and of its own block, ROVER.
pub record Makes (e : Ended) (descriptor word12 block first : ℕ) : Type 0 where
  pub on_top : OnTop e 2 descriptor
  pub free : get_or e.words 12 0 ≡ word12
  pub array : get_or e.words block 0 ≡ first
  pub rover_at : rover e.words ≡ 33

-- That word is on top, and its value is that of the integer.
pub record Sums (e : Ended) (w integer : ℕ) : Type 0 where
  pub on_top : OnTop e 3 w
  pub value : units w ≡ units integer

-- An instruction trapped, after so many.
pub record Traps (e : Ended) (steps word3 : ℕ) : Type 0 where
  pub trapped : e.answer ≡ Ok (Trapped steps)
  pub trap : trap_word e.words ≡ word3

-- ---- the table

pub record Table : Type 0 where
  -- lay out 64 words, 4 globals, 24 array words, one local
  pub m1 : Lays (laid [])
  pub m1_sheet : sheet_beside [] (laid []) ≡ Ok (sheet_with 0 0 21 3 24)
  -- the dummy's last word is not 0
  pub m1_spoilt : sheet_beside [] (set (laid []) 35 1) ≡ Err 14
  -- then INDEXGEN of 5
  pub m2 : Makes (ran_after 2 (0x40 ∷ 0x05 ∷ 0xA9 ∷ [])) 0x0200_0019 0x8000_000D 25 0x4000_0008
  pub m2_sheet : sheet_beside (0x40 ∷ 0x05 ∷ 0xA9 ∷ []) (ran_after 2 (0x40 ∷ 0x05 ∷ 0xA9 ∷ [])).words ≡ Ok (sheet_with 8 0 13 3 24)
  -- INDEXGEN of 15, a need of 18 from 21, splits
  pub m3 : Makes (ran_after 2 (0x40 ∷ 0x0F ∷ 0xA9 ∷ [])) 0x0200_000F 0x8000_0003 15 0x4000_0012
  -- INDEXGEN of 16, a need of 19, leaves slop 2: the whole block is given
  pub m4 : Makes (ran_after 2 (0x40 ∷ 0x10 ∷ 0xA9 ∷ [])) 0x0200_000C 0x0002_0013 12 0x0002_0013
  pub m4_sheet : sheet_beside (0x40 ∷ 0x10 ∷ 0xA9 ∷ []) (ran_after 2 (0x40 ∷ 0x10 ∷ 0xA9 ∷ [])).words ≡ Ok (sheet_with 19 2 0 3 24)
  -- 1 as a float: 1 divided by 1
  pub m5 : Sums (ran_after 3 (0x40 ∷ 0x01 ∷ 0x40 ∷ 0x01 ∷ 0x6B ∷ [])) 0x6000_0000 1
  -- 1 divided by 2
  pub m6 : OnTop (ran_after 3 (0x40 ∷ 0x02 ∷ 0x40 ∷ 0x01 ∷ 0x6B ∷ [])) 3 0x5FC0_0000
  -- 8,388,607 + 1: (8,1)
  pub m7 : Traps (ran_after 3 (0xAA ∷ 0x00 ∷ 0x7F ∷ 0xFF ∷ 0xFF ∷ 0x40 ∷ 0x01 ∷ 0x68 ∷ [])) 2 0x0801
  -- 4,194,304 + 0.5 is 4,194,304
  pub m8 : Sums (ran_after 3 (0xAA ∷ 0x00 ∷ 0x40 ∷ 0x00 ∷ 0x00 ∷ 0xAA ∷ 0x5F ∷ 0xC0 ∷ 0x00 ∷ 0x00 ∷ 0x68 ∷ [])) 0x6580_0000 4194304
  -- 4,194,305 + 0.5 is 4,194,306
  pub m9 : Sums (ran_after 3 (0xAA ∷ 0x00 ∷ 0x40 ∷ 0x00 ∷ 0x01 ∷ 0xAA ∷ 0x5F ∷ 0xC0 ∷ 0x00 ∷ 0x00 ∷ 0x68 ∷ [])) 0x6580_0002 4194306
  -- 0x4005 pushes 5, 0x5005 −5, 0x5000 0
  pub m10 : OnTop (ran_after 1 (0x40 ∷ 0x05 ∷ [])) 1 5 × OnTop (ran_after 1 (0x50 ∷ 0x05 ∷ [])) 1 0x8000_0005 × OnTop (ran_after 1 (0x50 ∷ 0x00 ∷ [])) 1 0
