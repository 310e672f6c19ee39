-- What holds of decoding, as one record. A reader must believe: `instruction_at` of instruction/specs/Decoding is what the code
-- is proved equal to, and `code_of` of procedure/specs/Headers is a function's code. Assumes nothing.
use Rattle.std.specs.Prelude.{ℕ, ◌+◌, ◌*◌, ◌^◌, ◌<◌, ◌≤◌, ◌≡◌, List, [], ◌∷◌, length, get_or, Result, Ok, Err}
use Rattle.procedure.specs.declared.header.Block.{Block}
use Rattle.procedure.specs.Headers.{code_start, code_end, code_of}
use Rattle.trap.specs.declared.Trap.{Trap}
use Rattle.instruction.specs.declared.Instruction.{Instruction}
use Rattle.instruction.specs.declared.Decoded.{Decoded}
use Rattle.instruction.specs.Reading.{code_address}
use Rattle.instruction.specs.Decoding.{done, instruction_at}
use Rattle.instruction_theorems.specs.Encoder.{encode, Encodable}

-- Two segments hold a function's block up to the end of its code, with the same code.
pub record SameCode (block : Block) (p q : List ℕ) : Type 0 where
  pub first_holds : 4 * block.start + code_end block.header ≤ length p
  pub second_holds : 4 * block.start + code_end block.header ≤ length q
  pub alike : (place : ℕ) → code_start ≤ place → place < code_end block.header
      → get_or p (4 * block.start + place) 0 ≡ get_or q (4 * block.start + place) 0

-- The place after an instruction, where there is one, is past its first byte and at most the end of the code.
abbrev pub Next : ℕ → List ℕ → Result Decoded Trap → Type 0
Next place code (Ok d) = (code_start ≤ place) × (place < d.next.0) × (d.next.0 ≤ length code)
Next place code (Err trap) = Unit {0}

-- These bytes stand in the code from that place on.
abbrev pub Stand : List ℕ → ℕ → List ℕ → Type 0
Stand code at [] = at ≤ length code
Stand code at (b ∷ bytes) = (at < length code) × (get_or code at 0 ≡ b) × Stand code (at + 1) bytes

pub record Decoding : Type 0 where
  -- Decoding never looks outside the function's code.
  pub confined : (block : Block) (p q : List ℕ) → SameCode block p q → (place : ℕ)
      → instruction_at (code_of p block) place ≡ instruction_at (code_of q block) place
  -- The next place is after the first byte and at most the end of the code.
  pub advances : (code : List ℕ) → length code < 2 ^ 32 → (place : ℕ) → Next place code (instruction_at code place)
  -- The bytes of every instruction form decode back to it, and the next place is the one after them.
  pub encoded : (code words : List ℕ) (place : ℕ) (i : Instruction) → length code < 2 ^ 32 → code_start ≤ place
      → Encodable place words i → Stand code place (encode place words i)
      → instruction_at code place ≡ done i (code_address (place + length (encode place words i)))
