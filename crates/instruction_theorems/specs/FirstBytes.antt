-- What a first byte says of its instruction: document 02, paper 2, "sorting first bytes into families, and into lengths where they fix
-- one", and "each of the 256 first bytes falls in exactly one range". A reader must believe: document 01's ranges, `first_bytes` of
-- instruction/specs/Families, and decoding. Assumes nothing.
use Rattle.std.specs.Prelude.{ℕ, suc, ◌+◌, ◌*◌, ◌^◌, ◌<◌, ◌≤◌, ◌≡◌, Bool, true, cond, ◌&&◌, List, [], ◌∷◌, ◌++◌, length, get_or, replicate, ltb, Result, Ok, Err}
use Rattle.procedure.specs.Headers.{code_start}
use Rattle.trap.specs.declared.Trap.{Trap}
use Rattle.trap.specs.Trap.{trap_of}
use Rattle.instruction.specs.declared.Decoded.{Decoded}
use Rattle.instruction.specs.declared.length.Length.{Length}
use Rattle.instruction.specs.declared.length.Length.TheVariants.{Fixed, ByAddress, ByCount, NoInstruction}
use Rattle.instruction.specs.Families.{Range, holds, first_bytes, family_of}
use Rattle.instruction.specs.Reading.{boundary, code_address}
use Rattle.instruction.specs.Lengths.{length_by, fixed_bytes}
use Rattle.instruction.specs.Decoding.{instruction_at}

-- ---- ranges

-- How many of some ranges hold a byte.
abbrev pub holding : List Range → ℕ → ℕ
holding [] b = 0
holding (range ∷ ranges) b = cond (holds range b) (suc (holding ranges b)) (holding ranges b)

-- Whichever of some ranges holds a byte, its family is the byte's.
abbrev pub Sorted : List Range → ℕ → Type 0
Sorted [] b = Unit {0}
Sorted (range ∷ ranges) b = (holds range b ≡ true → family_of b ≡ range.family) × Sorted ranges b

-- ---- lengths

-- An instruction was decoded, and it ends there, within the code.
abbrev pub Ends : List ℕ → ℕ → Result Decoded Trap → Type 0
Ends code end (Ok d) = (d.next ≡ code_address end) × (end ≤ length code)
Ends code end (Err trap) = ⊥

-- The same, where an instruction was decoded.
abbrev pub EndsIfAny : List ℕ → ℕ → Result Decoded Trap → Type 0
EndsIfAny code end (Ok d) = Ends code end (Ok d)
EndsIfAny code end (Err trap) = Unit {0}

abbrev pub IsTrap : Result Decoded Trap → Type 0
IsTrap (Ok d) = ⊥
IsTrap (Err trap) = Unit {0}

-- What was decoded at a place has that length. Of a fixed one there is an instruction of so many bytes as soon as the code has them, and
-- else (3,1). A MEMREF is a byte longer than the load whose form its address has. A CONSTANT_VECTOR ends with the words that its count
-- says. Where no instruction starts there is a trap.
abbrev pub HasLength : List ℕ → ℕ → Length → Result Decoded Trap → Type 0
HasLength code place (Fixed bytes) d = (place + bytes ≤ length code → Ends code (place + bytes) d) × (length code < place + bytes → d ≡ Err (trap_of 3 1))
HasLength code place ByAddress d = EndsIfAny code (place + 1 + fixed_bytes (length_by (get_or code (place + 1) 0))) d
HasLength code place ByCount d = EndsIfAny code (boundary (place + 2) + 4 * get_or code (place + 1) 0) d
HasLength code place NoInstruction d = IsTrap d

-- An instruction may start with the byte, and it fixes no length.
abbrev pub Open : Length → Type 0
Open (Fixed bytes) = ⊥
Open ByAddress = Unit {0}
Open ByCount = Unit {0}
Open NoInstruction = ⊥

-- Where what was decoded ends; 0 at a trap.
abbrev pub end_of : Result Decoded Trap → ℕ
end_of (Ok d) = d.next.0
end_of (Err trap) = 0

-- Where the first instruction of a function with that code ends.
abbrev pub first_end : List ℕ → ℕ
first_end code = end_of (instruction_at (replicate code_start 0 ++ code) code_start)

abbrev pub all_bytes : List ℕ → Bool
all_bytes [] = true
all_bytes (b ∷ code) = ltb b 256 && all_bytes code

-- Instructions of two lengths start with the byte, by the bytes that follow it.
pub record TwoLengths (b : ℕ) : Type 0 where
  pub one : List ℕ
  pub other : List ℕ
  pub bytes : (all_bytes one && all_bytes other) ≡ true
  pub starts : code_start < first_end (b ∷ one)
  pub longer : first_end (b ∷ one) < first_end (b ∷ other)

pub record FirstBytes : Type 0 where
  -- Each of the 256 first bytes falls in exactly one range ..
  pub one-range : (b : ℕ) → b < 256 → holding first_bytes b ≡ 1
  -- .. whose family is its own.
  pub sorted : (b : ℕ) → Sorted first_bytes b
  -- Where the length is fixed, it is the length of whatever decoding gives; where it is not, what follows says it.
  pub lengths : (code : List ℕ) → length code < 2 ^ 32 → (place : ℕ) → code_start ≤ place → place < length code
      → HasLength code place (length_by (get_or code place 0)) (instruction_at code place)
  -- No length that a first byte fixes is left open.
  pub varies : (b : ℕ) → b < 256 → Open (length_by b) → TwoLengths b
