-- The variable that an address of the code names, and where it stands. A reader must believe: an address is resolved with one
-- indirection from the variable that it names itself, which is the word at that place. Assumes nothing.
use Rattle.std.specs.Prelude.{ℕ, ◌-◌, ◌≡◌, Bool, true, false, ◌||◌, List, eqb, Option, Some, Result, Ok}
use Rattle.trap.specs.declared.Trap.{Trap}
use Rattle.descriptor.specs.declared.Target.{Target}
use Rattle.descriptor.specs.declared.Target.TheVariants.{Local}
use Rattle.descriptor.specs.Fields.{undefined_word}
use Rattle.descriptor.specs.Kinds.{stack, is_scalar}
use Rattle.segment.specs.State.{lbase}
use Rattle.procedure.specs.declared.header.Header.{Header}
use Rattle.instruction.specs.declared.Address.{Address}
use Rattle.instruction.specs.declared.MemoryOperation.{MemoryOperation}
use Rattle.instruction.specs.declared.MemoryOperation.TheVariants.{Assign, AssignNoResult}
use Rattle.instruction.specs.declared.cursor.Cursor.{Cursor}
use Rattle.manual.specs.OrTrap.{OrTrap}
use Rattle.manual.specs.Seen.{Variable, follow, variables_of}
use Rattle.manual.specs.Instructions.{resolve}
use Rattle.effects.specs.Sources.{address_of, held_at}
use Rattle.effects.specs.Seen.{read, seen}

-- The local so many words below LBASE.
abbrev pub local_of : List ℕ → ℕ → Target
local_of s v = Local (stack (lbase s - v))

-- What the variable leads to, itself or by reference.
abbrev pub variable_at : List ℕ → Target → OrTrap Variable
variable_at s t = follow (λ u. read s (held_at s u)) t (read s (held_at s t))

-- `resolved` is the variable t, which is word i.
pub record Stands (s : List ℕ) (resolved : OrTrap Variable) (t : Target) (i : ℕ) : Type 0 where
  pub resolves : resolved ≡ variable_at s t
  pub place : i ≡ address_of s t

-- An address was fetched, and word i is the variable that it names in a frame with so many.
pub record Names (s : List ℕ) (variables : ℕ) (fetched : Result (Address × Cursor) Trap) (i : ℕ) : Type 0 where
  pub address : Address
  pub end : Cursor
  pub target : Target
  pub fetches : fetched ≡ Ok (address, end)
  pub stands : (h : Header) → variables_of h ≡ variables → Stands s (resolve (seen s) h address) target i

-- A word that names no array, and is no reference: a scalar, or undefined.
abbrev pub is_plain : ℕ → Bool
is_plain w = eqb w undefined_word || is_scalar w

-- ASSIGN keeps the value on the stack, ASSIGN_NORESULT does not.
abbrev pub assignment : Bool → MemoryOperation
assignment true = Assign
assignment false = AssignNoResult

abbrev pub assign_entry : Bool → Option MemoryOperation
assign_entry keep = Some (assignment keep)
