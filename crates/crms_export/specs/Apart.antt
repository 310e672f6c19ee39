-- The numbers of runs, replays and looks come apart again as include/crms.h does it: no part runs into the next, and the words that the
-- number of a look leads to are those of the value seen. A reader must believe: the parts named here are the header's.
-- proofs/Apart.antt proves it. Assumes nothing.
use Rattle.std.specs.Prelude.{ℕ, ◌+◌, ◌-◌, ◌/◌, ◌%◌, ◌^◌, ◌≤◌, ◌<◌, ◌≡◌, List, [], ◌∷◌, length, Result, Ok, Err}
use Rattle.segment.specs.Blocks.{part, shape_at, elements_at}
use Rattle.manual.specs.Program.{Program}
use Rattle.effects.specs.declared.Ran.{Ran}
use Rattle.operations.specs.declared.Looked.{Looked}
use Rattle.operations.specs.declared.Looked.TheVariants.{Scalar, Array}
use Rattle.operations.specs.Answers.{Stop, status_of, run_status, steps_of, replay_status, replay_place}
use Rattle.operations.specs.Replay.{replayed}
use Rattle.operations.specs.Run.{ran}
use Rattle.operations.specs.Look.{looked}
use Rattle.crms_export.specs.Numbers.{run_number, replay_number, look_number}

-- `crms_status_of`, `crms_steps_of`, `crms_place_of`, `crms_rank_of`, `crms_first_of`, `crms_count_of`.
abbrev pub status_in : ℕ → ℕ
status_in n = n / 2 ^ 32

abbrev pub steps_in : ℕ → ℕ
steps_in n = n % 2 ^ 32

abbrev pub place_in : ℕ → ℕ
place_in n = n % 2 ^ 32

abbrev pub rank_in : ℕ → ℕ
rank_in n = n / 2 ^ 28 % 2 ^ 4

abbrev pub first_word_in : ℕ → ℕ
first_word_in n = n / 2 ^ 14 % 2 ^ 14

abbrev pub count_in : ℕ → ℕ
count_in n = n % 2 ^ 14

pub record RunApart (answer : Result Ran ℕ) : Type 0 where
  pub status : status_in (run_number answer) ≡ run_status answer
  pub steps : steps_in (run_number answer) ≡ steps_of answer

pub record ReplayApart (answer : Result (Unit {0}) Stop) : Type 0 where
  pub status : status_in (replay_number answer) ≡ replay_status answer
  pub place : place_in (replay_number answer) ≡ replay_place answer

-- The elements from `first` up, and the lengths just below it.
abbrev pub elements_in : List ℕ → ℕ → List ℕ
elements_in s n = part s (first_word_in n) (count_in n)

abbrev pub lengths_in : List ℕ → ℕ → List ℕ
lengths_in s n = part s (first_word_in n - rank_in n) (rank_in n)

-- Where a number leads to.
abbrev pub Leads : List ℕ → ℕ → Result Looked ℕ → Type 0
Leads s n (Ok (Scalar w)) = (rank_in n ≡ 0) × (elements_in s n ≡ w ∷ [])
Leads s n (Ok (Array block)) =
    (1 ≤ rank_in n) × (lengths_in s n ≡ shape_at s block.0) × (elements_in s n ≡ elements_at s block.0)
Leads s n (Err number) = Unit {0}

pub record LookApart (s : List ℕ) (g : ℕ) (answer : Result Looked ℕ) : Type 0 where
  pub status : status_in (look_number s g answer) ≡ status_of answer
  pub low : rank_in (look_number s g answer) ≤ first_word_in (look_number s g answer)
  pub high : first_word_in (look_number s g answer) + count_in (look_number s g answer) ≤ length s
  pub leads : Leads s (look_number s g answer) answer

-- Of any words, any file up to 2^32 bytes and any global. A budget has 32 bits.
pub record Apart : Type 0 where
  pub runs : (s : List ℕ) (p : Program) (budget : ℕ) → budget < 2 ^ 32 → RunApart (ran s p budget).answer
  pub replays : (s : List ℕ) (p : Program) (file : List ℕ) → length file ≤ 2 ^ 32 → ReplayApart (replayed s p file).answer
  pub looks : (s regular alternate : List ℕ) (g : ℕ) → LookApart s g (looked s regular alternate g)
