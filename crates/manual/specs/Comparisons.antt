-- The traps of the instructions LESS and EQUAL, whatever their operands, arrays too: paper 4 of document 02 has "LESS and EQUAL ..
-- never trap (8,1), (8,2) or (8,3). LESS still gives (7,0) for a character." (1,2) is storage's. Proved in proofs/Comparisons.
-- Assumes nothing.
use Rattle.std.specs.Prelude.{ℕ, ◌≡◌, true, List, [], ◌∷◌}
use Rattle.operator.specs.declared.Operator.TheVariants as O
use Rattle.operator.specs.declared.Dyadic.TheVariants as D
use Rattle.instruction.specs.declared.Instruction.TheVariants as I
use Rattle.manual.specs.OrTrap.{trap}
use Rattle.manual.specs.Seen.{Seen}
use Rattle.manual.specs.Instructions.{Running, plan_of}
use Rattle.manual.specs.Traps.{Line, among}

-- Too few operands, or one that is no value; rank and length errors.
abbrev pub equal_traps : List Line
equal_traps = (3, 4 ∷ 5 ∷ []) ∷ (5, 0 ∷ []) ∷ (6, 0 ∷ []) ∷ []

-- And type errors.
abbrev pub less_traps : List Line
less_traps = (7, 0 ∷ []) ∷ equal_traps

pub record ComparisonTraps : Type 0 where
  pub less : (f : Running) (seen : Seen) (next class number : ℕ) → plan_of f seen (I.Scalar (O.Dyadic D.Less)) next ≡ trap class number → among class number less_traps ≡ true
  pub equal : (f : Running) (seen : Seen) (next class number : ℕ) → plan_of f seen (I.Scalar (O.Dyadic D.Equal)) next ≡ trap class number → among class number equal_traps ≡ true
