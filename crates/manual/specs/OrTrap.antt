-- A result, or a trap's class and number. Definitions with these two read like the manual's lists of traps. Assumes nothing.
use Rattle.std.specs.Prelude.{ℕ, Bool, cond}

pub data OrTrap (A : Type 0) : Type 0 where
  gives : A → OrTrap A
  trap : ℕ → ℕ → OrTrap A

-- Go on with the result; a trap stops.
abbrev pub and_then : {A B : Type 0} → OrTrap A → (A → OrTrap B) → OrTrap B
and_then (gives a) next = next a
and_then (trap class number) next = trap class number

-- One line of a list of traps: where the test holds, the instruction stops with the trap.
abbrev pub stop_if : {A : Type 0} → Bool → ℕ → ℕ → OrTrap A → OrTrap A
stop_if test class number rest = cond test (trap class number) rest
