-- What contracts inside the crate say of a record: tests 10–18 are known to pass, or nothing is known; and the number that halts the
-- replay at a place, with 0 where it goes on. A reader need not believe them. Assumes nothing.
use Rattle.std.specs.Prelude.{ℕ, ◌≡◌, ◌≢◌, Bool, true, false, List, Result, MatchResult}
use Rattle.acceptance.specs.Refusal.{refusal}
use Rattle.operations.specs.declared.Halt.{Halt}
use Rattle.operations.specs.Answers.{Halted, stop_of}

abbrev pub Tested : Bool → List ℕ → List ℕ → List ℕ → Type 0
Tested true s regular alternate = 0 ≡ refusal s regular alternate
Tested false s regular alternate = Unit {0}

abbrev pub HaltsAt : ℕ → ℕ → Result (Unit {0}) Halt → Type 0
HaltsAt place number answer =
    MatchResult answer (λ _. number ≡ 0) (λ halt. (number ≢ 0) × (stop_of halt ≡ Halted number place))
