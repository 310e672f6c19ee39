-- What the fast path of an instruction answers: `true` where the instruction is done to its end, `false` where no word has
-- changed and it is still to be done. A reader must believe: with these two a caller can go either way. Assumes nothing.
use Rattle.std.specs.Prelude.{ℕ, ◌+◌, ◌%◌, ◌^◌, ◌≤◌, ◌<◌, ◌≡◌, Bool, true, false, List, Result, Ok}
use Rattle.trap.specs.declared.Trap.{Trap}
use Rattle.descriptor.specs.declared.address.CodeAddress.{CodeAddress}
use Rattle.descriptor.specs.declared.Target.{Target}
use Rattle.descriptor.specs.Kinds.{bit}
use Rattle.procedure.specs.declared.header.Header.{Header}
use Rattle.procedure.specs.Headers.{code_start, code_end}
use Rattle.instruction.specs.declared.Decoded.{Decoded}
use Rattle.instruction.specs.declared.cursor.Cursor.{Cursor}
use Rattle.instruction.specs.declared.length.Length.{Length}
use Rattle.instruction.specs.Reading.{cursor_at}
use Rattle.instruction.specs.Lengths.{fixed_bytes}
use Rattle.manual.specs.OrTrap.{OrTrap}
use Rattle.manual.specs.Effects.{Plan}
use Rattle.manual.specs.Seen.{Seen, Variable, variables_of}
use Rattle.manual.specs.Control as control
use Rattle.manual.specs.Instructions.{Running, header_of, plan_decoded}
use Rattle.effects.specs.Sources.{held_at}
use Rattle.effects.specs.Seen.{seen}
use Rattle.effects.specs.declared.Outcome.TheVariants.{Finished}
use Rattle.effects.specs.Carried.{did, carry}
use Rattle.fast_path.specs.Naming.{Stands}

-- The words were `s`, the answer is `r`, the words are `after`.
pub record DoneOrKept (s : List ℕ) (plan : Plan) (r : Bool) (after : List ℕ) : Type 0 where
  pub done : r ≡ true → did (Ok Finished) after ≡ carry s plan
  pub kept : r ≡ false → after ≡ s

-- `CarriesOut` where the answer is `true`.
abbrev pub CarriesOutIf : List ℕ → Bool → List ℕ → (Seen → Plan) → Type 0
CarriesOutIf s r after plan = DoneOrKept s (plan (seen s)) r after

-- ---- contracts by what is decoded, in every function that the code can be of

abbrev pub CarriesOutIn : List ℕ → Bool → List ℕ → (Running → Type 0) → Result Decoded Trap → Type 0
CarriesOutIn s r after Of d = (f : Running) → Of f → CarriesOutIf s r after (λ sees. plan_decoded f sees d)

abbrev pub Any : Running → Type 0
Any f = Unit {0}

abbrev pub WithHeader : Header → Running → Type 0
WithHeader h f = header_of f ≡ h

abbrev pub WithTable : List ℕ → Running → Type 0
WithTable table f = f.program.table ≡ table

abbrev pub Under : Header → List ℕ → Running → Type 0
Under h table f = WithHeader h f × WithTable table f

abbrev pub WithVariables : ℕ → Running → Type 0
WithVariables n f = variables_of (header_of f) ≡ n

-- The cursor past the byte at a place.
abbrev pub past : CodeAddress → Cursor
past place = cursor_at (place.0 + 1)

-- The place after an instruction at that place, of a fixed length, as 32 bits.
abbrev pub next_after : CodeAddress → Length → ℕ
next_after place length = (place.0 + fixed_bytes length) % 2 ^ 32

-- ---- contracts by a variable

-- Whichever variable word i is, and whatever address led to it.
abbrev pub CarriesOutAt : List ℕ → Bool → List ℕ → ℕ → (Seen → OrTrap Variable → Plan) → Type 0
CarriesOutAt s r after i plan =
    (resolved : OrTrap Variable) (t : Target) → Stands s resolved t i → CarriesOutIf s r after (λ sees. plan sees resolved)

-- Whichever variable holds the word w.
abbrev pub CarriesOutHeld : List ℕ → Bool → List ℕ → ℕ → (Seen → Target → Plan) → Type 0
CarriesOutHeld s r after w plan = (t : Target) → w ≡ held_at s t → CarriesOutIf s r after (λ sees. plan sees t)

-- ---- GO_TRUE and GO_FALSE, as the wanted bit says, to a place of the code

abbrev pub CarriesOutGo : List ℕ → Bool → List ℕ → ℕ → CodeAddress → CodeAddress → Type 0
CarriesOutGo s r after wanted to next =
    (h : Header) (b : Bool) → wanted ≡ bit b → code_start ≤ to.0 → to.0 < code_end h
    → CarriesOutIf s r after (λ sees. control.go_if sees h next.0 b to.0)
