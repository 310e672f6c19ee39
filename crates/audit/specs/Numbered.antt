-- One function under two numberings of the operators, by computation from the definitions: 2 is taken from 5, and the sign of what is left
-- is changed. And tables that are refused. Assumes nothing.
use Rattle.std.specs.Prelude.{ℕ, ◌≡◌, List, [], ◌∷◌, ◌++◌, set, Err}
use Rattle.operator.specs.Lent.{manual_table}
use Rattle.manual.specs.Program.{program}
use Rattle.operations.specs.Run.{Ended, ran}
use Rattle.audit.specs.Table.{coded, laid, ran_after, OnTop}

-- The chain numbers the operators from the last to the first.
abbrev pub chain_table : List ℕ
chain_table = 15 ∷ 14 ∷ 13 ∷ 12 ∷ 11 ∷ 10 ∷ 9 ∷ 8 ∷ 7 ∷ 6 ∷ 5 ∷ 4 ∷ 3 ∷ 2 ∷ 1 ∷ 0 ∷ []

-- 2 and 5 are pushed; DIFFERENCE is 9 and NEGATIVE 1 in the manual, so 6 and 14 in the chain's numbering.
abbrev pub manual_code : List ℕ
manual_code = 0x40 ∷ 0x02 ∷ 0x40 ∷ 0x05 ∷ 0x69 ∷ 0x61 ∷ []

abbrev pub chain_code : List ℕ
chain_code = 0x40 ∷ 0x02 ∷ 0x40 ∷ 0x05 ∷ 0x66 ∷ 0x6E ∷ []

-- Four instructions of the chain's code, under a table.
abbrev pub chain_ran : List ℕ → Ended
chain_ran table = ran (laid chain_code) (program (coded chain_code) (coded chain_code) table) 4

pub record Numbered : Type 0 where
  -- the same answer and the same words
  pub same : chain_ran chain_table ≡ ran_after 4 manual_code
  pub value : OnTop (chain_ran chain_table) 4 0x8000_0003
  -- under the manual's numbering the chain's code is another function, TEST_NUMBER and LESS
  pub other : OnTop (ran_after 4 chain_code) 4 1
  -- fifteen bytes, seventeen, a byte above 15, a byte that is repeated
  pub short : (chain_ran (0 ∷ 1 ∷ 2 ∷ 3 ∷ 4 ∷ 5 ∷ 6 ∷ 7 ∷ 8 ∷ 9 ∷ 10 ∷ 11 ∷ 12 ∷ 13 ∷ 14 ∷ [])).answer ≡ Err 26
  pub long : (chain_ran (manual_table ++ (0 ∷ []))).answer ≡ Err 26
  pub large : (chain_ran (set chain_table 0 16)).answer ≡ Err 26
  pub repeated : (chain_ran (set chain_table 0 0)).answer ≡ Err 26
  -- 12 comes before it, and 13 after it: both procedure segments have no entry; an unnamed bit is set in word 2
  pub after : (ran (laid chain_code) (program (0 ∷ 0 ∷ 0 ∷ 0 ∷ []) (0 ∷ 0 ∷ 0 ∷ 0 ∷ []) []) 4).answer ≡ Err 12
  pub before : (ran (set (laid chain_code) 2 0x10) (program (coded chain_code) (coded chain_code) []) 4).answer ≡ Err 26
  pub otherwise : (ran (set (laid chain_code) 2 0x10) (program (coded chain_code) (coded chain_code) chain_table) 4).answer ≡ Err 13
