-- Operands that must be scalars, as the manual's lists of INDEX and ASSIGN_INDEXED judge them: all are looked at for (3,5) before
-- any for (5,0). Assumes nothing.
use Rattle.std.specs.Prelude.{ℕ, Bool, true, false, not, List, Result, Ok, Err}
use Rattle.segment.specs.Cells.{Cell}
use Rattle.manual.specs.OrTrap.{OrTrap, gives, trap, stop_if}
use Rattle.manual.specs.Scalars.{is_foreign, is_scalar_cell, any_cell, scalar_words}
use Rattle.manual.specs.Memory.{has_no_value}
use Rattle.trap.specs.declared.Trap.{Trap}

-- Undefined is foreign to ASSIGN_INDEXED, and no scalar to INDEX.
abbrev pub is_foreign_to : Bool → Cell → Bool
is_foreign_to true = has_no_value
is_foreign_to false = is_foreign

unfoldable pub scalars_of : List Cell → OrTrap (List ℕ)
scalars_of cells = stop_if (any_cell (λ c. not (is_scalar_cell c)) cells) 5 0 (gives (scalar_words cells))

unfoldable pub taken_of : Bool → List Cell → OrTrap (List ℕ)
taken_of strict cells = stop_if (any_cell (is_foreign_to strict) cells) 3 5 (scalars_of cells)

-- The code's answer, with the words that it wrote.
abbrev pub taken : Result Unit Trap → List ℕ → OrTrap (List ℕ)
taken (Ok done) words = gives words
taken (Err t) words = trap t.class t.number
