-- Lengths: by the number of a suboperation, what is computed at each number of a run; of an address, that of the load of its family.
use mathlib.Core.Path.{◌≡◌, refl}
use mathlib.Core.List.{List}
use Prim.Native.Nat.{ℕ, zero, suc, ◌+◌, ◌*◌, ◌^◌, ◌≤◌}
use native.Mathlib.Omega.{arith}
use lib.ListN.{length}
use Rattle.instruction.specs.declared.Address.{Address}
use Rattle.instruction.specs.declared.cursor.Cursor.{Cursor}
use Rattle.instruction.specs.declared.family.Family.{Family}
use Rattle.instruction.specs.declared.family.Family.TheVariants.{ShortLocal, ShortConst, GenScalar, MemRef, Etc, LongLocal, LongGlobal, Index, Unassigned}
use Rattle.instruction.specs.declared.length.Length.{Length}
use Rattle.instruction.specs.declared.length.Length.TheVariants.{Fixed, ByAddress, ByCount, NoInstruction}
use Rattle.instruction.specs.Reading.{fetch_byte, with_read}
use Rattle.instruction.specs.Variables.{long_local, long_global, address_in}
use Rattle.instruction.specs.Lengths.{length_in, fixed_bytes}
use Rattle.trap.specs.declared.Trap.{Trap}
use Rattle.trap.specs.Trap.{trap_of}
use Rattle.std.proofs.Common.{Option, Result, Ok, Err}
use Rattle.descriptor.proofs.Computed.{Throughout, throughout}
use Rattle.instruction.proofs.Cases.{byte-cases}

-- ---- by number

abbrev pub number_of : Length → ℕ
number_of ByAddress = zero
number_of ByCount = suc zero
number_of NoInstruction = suc (suc zero)
number_of (Fixed bytes) = suc (suc (suc bytes))

abbrev numbered : ℕ → Length
numbered zero = ByAddress
numbered (suc zero) = ByCount
numbered (suc (suc zero)) = NoInstruction
numbered (suc (suc (suc bytes))) = Fixed bytes

undone : (length : Length) → numbered (number_of length) ≡ length
undone ByAddress = refl
undone ByCount = refl
undone NoInstruction = refl
undone (Fixed bytes) = refl

pub length_from : (f : ℕ → Length) (length : Length) (low high : ℕ) → Throughout number_of f length low high
    → (number : ℕ) → low ≤ number → number ≤ high → f number ≡ length
length_from = throughout number_of numbered undone

-- ---- an address

-- An address that is there ends at n, where its first byte is counted too, and within the code if what comes after that byte begins there.
abbrev pub AddressEnds : List ℕ → ℕ → ℕ → Result (Address × Cursor) Trap → Type 0
AddressEnds code begin n (Ok found) = (found.1.at + 1 ≡ n) × (begin ≤ length code → found.1.at ≤ length code)
AddressEnds code begin n (Err t) = Unit {0}

-- It has as many bytes as the load of its family, with whatever number that is asked.
module _ (code : List ℕ) (c : Cursor) (first number : ℕ) where
  two_bytes : (address : ℕ → Address)
      → AddressEnds code c.at (c.at + 2) (with_read (fetch_byte code c) (Err (trap_of 3 1)) (λ second after. Ok (address (first * 2 ^ 8 + second), after)))
  two_bytes address =
      byte-cases code c
      (λ (x : Option (ℕ × Cursor)). AddressEnds code c.at (c.at + 2) (with_read x (Err (trap_of 3 1)) (λ second after. Ok (address (first * 2 ^ 8 + second), after))))
      (λ h. tt)
      (λ h. (omega arith, λ begins. omega arith))

  pub address-ends : (family : Family) → AddressEnds code c.at (c.at + fixed_bytes (length_in family number)) (address_in code c first family)
  unfolding address_in
  address-ends ShortLocal = (refl, λ begins. begins)
  address-ends LongLocal = two_bytes long_local
  address-ends LongGlobal = two_bytes long_global
  address-ends ShortConst = tt
  address-ends GenScalar = tt
  address-ends MemRef = tt
  address-ends Etc = tt
  address-ends Index = tt
  address-ends Unassigned = tt
