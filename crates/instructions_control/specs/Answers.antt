-- What the instructions of control find out before they change a word, read as the manual's answers; and the parts of its plans
-- for which the code has functions. Assumes nothing.
use Rattle.std.specs.Prelude.{ℕ, Bool, cond, not, List, [], ◌∷◌, ◌++◌, ltb, eqb, Result, Ok, Err}
use Rattle.trap.specs.declared.Trap.{Trap}
use Rattle.scalar.specs.Reading.{whole_of}
use Rattle.procedure.specs.declared.header.Header.{Header}
use Rattle.procedure.specs.declared.header.Block.{Block}
use Rattle.procedure.specs.Headers.{line_of}
use Rattle.procedure.specs.Directory.{selected, in_directory, header_of_function}
use Rattle.manual.specs.OrTrap.{OrTrap, gives, trap, stop_if}
use Rattle.manual.specs.Values as values
use Rattle.manual.specs.Effects.{Effect, discards, leaves, jumps, Plan}
use Rattle.manual.specs.Seen.{Seen, variables_of}
use Rattle.manual.specs.Control as control

abbrev pub tested : Result Bool Trap → OrTrap Bool
tested (Ok b) = gives b
tested (Err t) = trap t.class t.number

abbrev pub left_by : Result Unit Trap → Header → List Effect → Plan
left_by (Ok allowed) h before = gives (before ++ (leaves (variables_of h) h.result ∷ []))
left_by (Err t) h before = trap t.class t.number

-- BRANCH by its operand's value, in the function of a block of the procedure segment `p`.
abbrev pub branch_by : Seen → List ℕ → Block → ℕ → values.Value → Plan
branch_by seen p block next v =
    stop_if (ltb 1 (values.rank v)) 5 0
    (cond (eqb (values.size v) 0) (gives (discards 1 ∷ jumps next ∷ []))
    (control.branch_to seen block.header (line_of p block) (whole_of (values.first v.ravel))))

-- CALL with these procedure segments: `call_plan` of a function that runs with them.
abbrev pub call_in : List ℕ → List ℕ → Seen → ℕ → ℕ → Bool → ℕ → Plan
call_in regular alternate seen next arguments selector number =
    stop_if (not (in_directory selector regular alternate number)) 3 1
    (control.call seen next (header_of_function (selected selector regular alternate) number) selector number arguments)
