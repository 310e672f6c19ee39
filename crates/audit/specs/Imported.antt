-- Small files of imports, replayed by computation from the definitions: what is answered, left and counted. Assumes nothing.
use Rattle.std.specs.Prelude.{ℕ, ◌≡◌, List, [], ◌∷◌, get_or, Ok, Err}
use Rattle.manual.specs.Program.{under_manual}
use Rattle.tally.specs.Counts.{count_limit, counted}
use Rattle.operations.specs.Answers.{Halted, Malformed}
use Rattle.operations.specs.Replay.{Replay, replayed}
use Rattle.audit.specs.Table.{coded, laid}

-- 5 and 1 are pushed and added; then 1 is added to nothing.
abbrev pub adding_code : List ℕ
adding_code = 0x40 ∷ 0x05 ∷ 0x40 ∷ 0x01 ∷ 0x68 ∷ 0x68 ∷ []

abbrev pub after_file : List ℕ → Replay
after_file file = replayed (laid adding_code) (under_manual (coded adding_code) (coded adding_code)) file

pub record Imported : Type 0 where
  -- nothing: every record was done
  pub none : ((after_file []).answer ≡ Ok tt) × ((after_file []).counts ≡ 0 ∷ 0 ∷ 0 ∷ 0 ∷ 0 ∷ 0 ∷ 0 ∷ 0 ∷ [])
  -- 7 into global 8, three instructions, and then what is no record, at place 6: what came before stands
  pub stands : (after_file (0 ∷ 8 ∷ 0 ∷ 7 ∷ 1 ∷ 3 ∷ 2 ∷ [])).answer ≡ Err (Malformed 6)
  pub loads : get_or (after_file (0 ∷ 8 ∷ 0 ∷ 7 ∷ 1 ∷ 3 ∷ 2 ∷ [])).words 8 0 ≡ 7
  pub counts : (after_file (0 ∷ 8 ∷ 0 ∷ 7 ∷ 1 ∷ 3 ∷ 2 ∷ [])).counts ≡ 0 ∷ 2 ∷ 1 ∷ 0 ∷ 0 ∷ 0 ∷ 0 ∷ 0 ∷ []
  -- the fourth instruction traps: 3 at the run's place, and it is not counted
  pub trap : (after_file (1 ∷ 9 ∷ 1 ∷ 1 ∷ [])).answer ≡ Err (Halted 3 0)
  pub trap_counts : (after_file (1 ∷ 9 ∷ 1 ∷ 1 ∷ [])).counts ≡ 0 ∷ 2 ∷ 1 ∷ 0 ∷ 0 ∷ 0 ∷ 0 ∷ 0 ∷ []
  -- a refusal halts it: global 7 is none
  pub refusal : (after_file (1 ∷ 0 ∷ 0 ∷ 7 ∷ 0 ∷ 7 ∷ [])).answer ≡ Err (Halted 21 2)
  -- a count at the limit stays there
  pub limit : counted 0x40 (0 ∷ count_limit ∷ []) ≡ 0 ∷ count_limit ∷ []
