-- The traps that an instruction gives by itself: the manual's appendix "Summary of Trap Classes and Numbers", less those that no
-- list of traps and no sentence of document 01 gives an instruction. Storage judges (1,2), last of all; (2,1), (2,2) and (2,3) come
-- after a finished instruction; (3,10) is of an array operation that was interrupted, and none is. A reader must believe: the
-- table is the appendix's. The theorem is proved in proofs/Traps. Assumes nothing.
use Rattle.std.specs.Prelude.{ℕ, ◌^◌, ◌<◌, ◌≡◌, Bool, true, false, ◌&&◌, ◌||◌, List, [], ◌∷◌, eqb}
use Rattle.descriptor.specs.declared.Target.{Target}
use Rattle.segment.specs.Cells.{Cell}
use Rattle.segment.specs.Machine.{Machine}
use Rattle.instruction.specs.declared.Instruction.{Instruction}
use Rattle.manual.specs.OrTrap.{OrTrap, trap}
use Rattle.manual.specs.Values.{any}
use Rattle.manual.specs.Effects.{Plan}
use Rattle.manual.specs.Seen.{Seen, local_at, global_at, seen_of}
use Rattle.manual.specs.Instructions.{Running, plan_of, plan_at}

-- A class of the appendix, and those of its numbers that an instruction gives.
abbrev pub Line : Type 0
Line = ℕ × List ℕ

abbrev pub table : List Line
table =
    -- storage: the runtime stack
    (1, 1 ∷ [])
    -- debugging: a breakpoint
    ∷ (2, 4 ∷ [])
    -- the processor or the compiler: addresses 1 to 3, operands 4 to 6, instructions 7 to 11, returns 12 and 13
    ∷ (3, 1 ∷ 2 ∷ 3 ∷ 4 ∷ 5 ∷ 6 ∷ 7 ∷ 8 ∷ 9 ∷ 11 ∷ 12 ∷ 13 ∷ [])
    -- attention; rank, length and type errors
    ∷ (4, 0 ∷ [])
    ∷ (5, 0 ∷ [])
    ∷ (6, 0 ∷ [])
    ∷ (7, 0 ∷ [])
    -- domain: integer overflow, underflow, overflow, division by zero, others
    ∷ (8, 1 ∷ 2 ∷ 3 ∷ 4 ∷ 5 ∷ [])
    -- index: the number of subscripts, a subscript
    ∷ (9, 1 ∷ 2 ∷ [])
    -- value
    ∷ (10, 0 ∷ [])
    ∷ []

abbrev pub among : ℕ → ℕ → List Line → Bool
among class number [] = false
among class number (line ∷ rest) = (eqb class line.0 && any (eqb number) line.1) || among class number rest

unfoldable pub listed : ℕ → ℕ → Bool
listed class number = among class number table

-- Of what may be a trap.
abbrev pub InTable : {A : Type 0} → OrTrap A → Type 0
InTable x = (class number : ℕ) → x ≡ trap class number → listed class number ≡ true

-- Seen is any function of addresses. Where a variable of it is a trap, the table has it.
pub record Addressed (seen : Seen) : Type 0 where
  pub local : (variables v : ℕ) → InTable (seen.local variables v)
  pub global : (g : ℕ) → InTable (seen.global g)

-- A plan's trap is in the table, so it is none of those that others judge.
pub record Trapping (plan : Plan) : Type 0 where
  pub in_table : InTable plan
  pub storage : plan ≡ trap 1 2 → ⊥
  pub step : plan ≡ trap 2 1 → ⊥
  pub call_trace : plan ≡ trap 2 2 → ⊥
  pub return_trace : plan ≡ trap 2 3 → ⊥

pub record TrapsListed : Type 0 where
  pub of_plan : (f : Running) (seen : Seen) → Addressed seen → (i : Instruction) (next : ℕ) → Trapping (plan_of f seen i next)
  pub at_place : (f : Running) (seen : Seen) → Addressed seen → (place : ℕ) → Trapping (plan_at f seen place)
  -- what is seen by following addresses has such traps only, so what is seen of a machine
  pub local_traps : (read : Target → Cell) (base variables v : ℕ) → InTable (local_at read base variables v)
  pub global_traps : (read : Target → Cell) (blockptr g : ℕ) → InTable (global_at read blockptr g)
  pub machines : (words : ℕ) (m : Machine Cell) → Addressed (seen_of words m)
  -- word 3 has eight bits for each
  pub class : (class number : ℕ) → listed class number ≡ true → class < 2 ^ 8
  pub number : (class number : ℕ) → listed class number ≡ true → number < 2 ^ 8
