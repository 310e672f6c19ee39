-- BRANCH, GO, GO_TRUE, GO_FALSE, RETURN, CALL, BREAKPOINT and ATTENTION, as the manual has them with document 01's "Meanings
-- fixed here" and decisions 20, 21 and 32. Assumes nothing.
use Rattle.std.specs.Prelude.{ℕ, ◌+◌, ◌-◌, ◌*◌, ◌^◌, Bool, cond, not, ◌&&◌, ◌||◌, List, [], ◌∷◌, ◌++◌, ltb, leb, eqb, Option, Some, None}
use Rattle.scalar.specs.declared.Whole.{Whole}
use Rattle.scalar.specs.declared.Whole.TheVariants as W
use Rattle.scalar.specs.Reading.{whole_of}
use Rattle.procedure.specs.declared.header.Header.{Header}
use Rattle.descriptor.specs.declared.address.CodeAddress.{CodeAddress}
use Rattle.procedure.specs.Headers.{code_start, code_end}
use Rattle.manual.specs.OrTrap.{gives, trap, and_then, stop_if}
use Rattle.manual.specs.Values as values
use Rattle.manual.specs.Effects.{Effect, discards, enters, leaves, jumps, Plan}
use Rattle.manual.specs.Seen.{Seen, variables_of}
use Rattle.manual.specs.Scalars.{value_of}
use Rattle.manual.specs.Loads.{is_undefined}

-- A place of code is valid from 8 to 7 + 4·NCODE; a jump outside is (3,1).
abbrev pub jump_to : Header → ℕ → List Effect → Plan
jump_to h place before = stop_if (ltb place code_start || leb (code_end h) place) 3 1 (gives (before ++ (jumps place ∷ [])))

unfoldable pub go : Header → ℕ → Plan
go h place = jump_to h place []

-- GO_TRUE and GO_FALSE: the jump is conditioned upon the operand being one or zero.
unfoldable pub go_if : Seen → Header → ℕ → Bool → ℕ → Plan
go_if seen h next wanted place =
    stop_if (ltb seen.count 1) 3 4
    (and_then (value_of (seen.operand 0)) (λ v.
    and_then (values.truth_of_value v) (λ b.
    cond (cond wanted b (not b)) (jump_to h place (discards 1 ∷ [])) (gives (discards 1 ∷ jumps next ∷ [])))))

-- Leaving the function, where so many temporaries are on the stack after the operands in `before` are taken: (3,12), (3,13),
-- (10,0). The frame's variables go, and its result is pushed if it has one.
abbrev pub leaving : Seen → Header → ℕ → List Effect → Plan
leaving seen h temporaries before =
    stop_if (ltb 0 temporaries) 3 12
    (stop_if seen.bottom 3 13
    (stop_if (h.result && is_undefined (seen.result h.result)) 10 0
    (gives (before ++ (leaves (variables_of h) h.result ∷ [])))))

unfoldable pub return : Seen → Header → Plan
return seen h = leaving seen h seen.count []

-- BRANCH 1 to NLINES takes that line entry; any other whole number leaves the function, (3,12) being judged without BRANCH's
-- operand, which is dropped first of all.
abbrev pub line_or_leave : Seen → Header → Option CodeAddress → Plan
line_or_leave seen h (Some place) = jump_to h place.0 (discards 1 ∷ [])
line_or_leave seen h None = leaving seen h (seen.count - 1) (discards 1 ∷ [])

abbrev pub line_number : Bool → ℕ → ℕ
line_number negative n = cond negative 0 n

abbrev pub branch_to : Seen → Header → (ℕ → Option CodeAddress) → Whole → Plan
branch_to seen h line (W.Number negative n) = line_or_leave seen h (line (line_number negative n))
branch_to seen h line W.Fraction = trap 8 5
branch_to seen h line W.Character = trap 7 0

-- An empty vector only drops the operand.
unfoldable pub branch : Seen → Header → (ℕ → Option CodeAddress) → ℕ → Plan
branch seen h line next =
    stop_if (ltb seen.count 1) 3 4
    (and_then (value_of (seen.operand 0)) (λ v.
    stop_if (ltb 1 (values.rank v)) 5 0
    (cond (eqb (values.size v) 0) (gives (discards 1 ∷ jumps next ∷ []))
    (branch_to seen h line (whole_of (values.first v.ravel))))))

-- CALL: "CALL whose NARGS differs from the header: (3,4)". The frame's second word is P, the function number and PCTR 8.
abbrev pub frame_word : Bool → ℕ → ℕ
frame_word alternate number = cond alternate (2 ^ 27) 0 + number * 2 ^ 16 + code_start

unfoldable pub call : Seen → ℕ → Header → Bool → ℕ → ℕ → Plan
call seen next called alternate number arguments =
    stop_if (ltb seen.count arguments || not (eqb arguments called.nargs)) 3 4
    (stop_if (ltb seen.room (called.nlocals + 2)) 1 1
    (gives (jumps next ∷ enters called.nlocals (frame_word alternate number) ∷ [])))

-- They never finish.
unfoldable pub breakpoint : Plan
breakpoint = trap 2 4

unfoldable pub attention : Plan
attention = trap 4 0
