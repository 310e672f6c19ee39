-- A trap by its class and number, as document 01 writes them: (7,0) is `trap_of 7 0`. Assumes nothing.
use Rattle.std.specs.Prelude.{ℕ}
use Rattle.trap.specs.declared.Trap.{Trap}

abbrev pub trap_of : ℕ → ℕ → Trap
trap_of class number = record { class = class; number = number }
