-- What an instruction comes to on the words of a segment: its plan carried out, or a trap that changes nothing. Every
-- instruction's contract is `CarriesOut`. Assumes nothing.
use Rattle.std.specs.Prelude.{ℕ, ◌≡◌, cond, List, [], ◌∷◌, Result, Ok, Err}
use Rattle.trap.specs.Trap.{trap_of}
use Rattle.trap.specs.declared.Trap.{Trap}
use Rattle.manual.specs.OrTrap.{gives, trap}
use Rattle.manual.specs.Effects.{Effect, replaces, discards, swaps, stores, stores_element, enters, leaves, jumps, sets_origin, Plan}
use Rattle.manual.specs.Seen.{Seen}
use Rattle.effects.specs.Perform.{performs, first_full}
use Rattle.effects.specs.Seen.{seen}
use Rattle.effects.specs.declared.Outcome.{Outcome}
use Rattle.effects.specs.declared.Outcome.TheVariants.{Finished, Entered, Left}

-- The outcome, and the segment after it.
pub record Carried : Type 0 where
  pub outcome : Result Outcome Trap
  pub words : List ℕ

abbrev pub did : Result Outcome Trap → List ℕ → Carried
did outcome s = record { outcome = outcome; words = s }

-- Effects finish an instruction; a function was entered, or left, by one of them.
abbrev pub outcome_of : List Effect → Outcome
outcome_of [] = Finished
outcome_of (enters n f ∷ es) = Entered
outcome_of (leaves n result ∷ es) = Left
outcome_of (replaces n source ∷ es) = outcome_of es
outcome_of (discards n ∷ es) = outcome_of es
outcome_of (swaps ∷ es) = outcome_of es
outcome_of (stores t source ∷ es) = outcome_of es
outcome_of (stores_element t place w n ∷ es) = outcome_of es
outcome_of (jumps place ∷ es) = outcome_of es
outcome_of (sets_origin v ∷ es) = outcome_of es

-- (1,2) comes last, after every other trap.
abbrev pub carry : List ℕ → Plan → Carried
carry s (trap class number) = did (Err (trap_of class number)) s
carry s (gives es) = cond (first_full s es) (did (Err (trap_of 1 2)) s) (did (Ok (outcome_of es)) (performs s es))

-- An instruction's contract: from the words `s`, outcome and words afterwards are those of the plan of what is seen there.
abbrev pub CarriesOut : List ℕ → Result Outcome Trap → List ℕ → (Seen → Plan) → Type 0
CarriesOut s outcome after plan = did outcome after ≡ carry s (plan (seen s))
