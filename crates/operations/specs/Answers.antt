-- The answers of the operations, by document 01's numbers: in these definitions an `Err` is the number of the test that refused.
-- Assumes nothing.
use Rattle.std.specs.Prelude.{ℕ, cond, eqb, Result, Ok, Err}
use Rattle.acceptance.specs.Answer.{number_of_test}
use Rattle.effects.specs.declared.Ran.{Ran}
use Rattle.effects.specs.declared.Ran.TheVariants as R
use Rattle.operations.specs.declared.Refusal.{Refusal}
use Rattle.operations.specs.declared.Refusal.TheVariants as F
use Rattle.operations.specs.declared.Halt.{Halt}
use Rattle.operations.specs.declared.Halt.TheVariants as H

-- The table's number for each test.
abbrev pub number_of : Refusal → ℕ
number_of (F.Test test) = number_of_test test
number_of F.Parts = 19
number_of F.Function = 20
number_of F.Global = 21
number_of F.Undefined = 22
number_of F.Value = 23
number_of F.Full = 24
number_of F.Table = 26

-- What the code answers, by the number of the test.
abbrev pub numbered : {A : Type 0} → Result A Refusal → Result A ℕ
numbered (Ok a) = Ok a
numbered (Err refusal) = Err (number_of refusal)

-- The number of the test that refused; 0 where none did.
abbrev pub status_of : {A : Type 0} → Result A ℕ → ℕ
status_of (Ok a) = 0
status_of (Err number) = number

-- Lay out and load: done, or refused by the number of a test.
abbrev pub done_or_refused : ℕ → Result (Unit {0}) ℕ
done_or_refused number = cond (eqb number 0) (Ok tt) (Err number)

-- Run: 2 and 3 come with the number of finished instructions.
abbrev pub run_status : Result Ran ℕ → ℕ
run_status (Ok (R.Done steps)) = 2
run_status (Ok (R.Trapped steps)) = 3
run_status (Err number) = number

abbrev pub steps_of : Result Ran ℕ → ℕ
steps_of (Ok (R.Done steps)) = steps
steps_of (Ok (R.Trapped steps)) = steps
steps_of (Err number) = 0

-- What halts a replay: the number that a record's load or run returned, 3 for a trap, and the place of its first byte; or the place
-- of what is no record.
pub data Stop : Type 0 where
  Halted : ℕ → ℕ → Stop
  Malformed : ℕ → Stop

abbrev pub stop_of : Halt → Stop
stop_of (H.Refused refusal place) = Halted (number_of refusal) place
stop_of (H.Trapped place) = Halted 3 place
stop_of (H.Malformed place) = Malformed place

abbrev pub stopped : Result (Unit {0}) Halt → Result (Unit {0}) Stop
stopped (Ok done) = Ok done
stopped (Err halt) = Err (stop_of halt)

abbrev pub stop_number : Stop → ℕ
stop_number (Halted number place) = number
stop_number (Malformed place) = 25

abbrev pub stop_place : Stop → ℕ
stop_place (Halted number place) = place
stop_place (Malformed place) = place

-- Replay: with every number but 0 stands the place of a record's first byte.
abbrev pub replay_status : Result (Unit {0}) Stop → ℕ
replay_status (Ok done) = 0
replay_status (Err stop) = stop_number stop

abbrev pub replay_place : Result (Unit {0}) Stop → ℕ
replay_place (Ok done) = 0
replay_place (Err stop) = stop_place stop
