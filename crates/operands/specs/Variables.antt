-- The variable that an address leads to and the word that it holds, or a trap: the manual's resolving, told on words.
-- proofs/Resolving has the laws that it is what is seen. Assumes nothing.
use Rattle.std.specs.Prelude.{ℕ, ◌-◌, ◌≡◌, cond, List, ltb, leb, Result, Ok, Err}
use Rattle.trap.specs.Trap.{trap_of}
use Rattle.trap.specs.declared.Trap.{Trap}
use Rattle.descriptor.specs.declared.Target.{Target}
use Rattle.descriptor.specs.declared.Target.TheVariants.{Local, Global}
use Rattle.descriptor.specs.declared.Kind.{Kind}
use Rattle.descriptor.specs.declared.Kind.TheVariants as K
use Rattle.descriptor.specs.Kinds.{kind_of, segment, stack}
use Rattle.instruction.specs.declared.Address.{Address}
use Rattle.instruction.specs.declared.Address.TheVariants as A
use Rattle.segment.specs.State.{lbase, blockptr}
use Rattle.manual.specs.OrTrap.{OrTrap, gives, trap}
use Rattle.manual.specs.Seen as manual
use Rattle.effects.specs.Sources.{held_at}
use Rattle.effects.specs.Seen.{read}
use Rattle.operands.specs.declared.variables.Variable.{Variable}

-- The variable at a place, with the word that it holds.
abbrev pub variable : Target → ℕ → Variable
variable t w = record { target = t; held = w }

-- The variable that an indirect word names may not be indirect again.
abbrev pub resolved_target_by : Target → ℕ → Kind → Result Variable Trap
resolved_target_by t w (K.Scalar k) = Ok (variable t w)
resolved_target_by t w (K.Array a) = Ok (variable t w)
resolved_target_by t w (K.Indirect u) = Err (trap_of 3 6)
resolved_target_by t w K.Undefined = Ok (variable t w)
resolved_target_by t w K.Invalid = Ok (variable t w)

unfoldable pub resolved_target : List ℕ → Target → Result Variable Trap
resolved_target s t = resolved_target_by t (held_at s t) (kind_of (held_at s t))

abbrev pub resolved_variable_by : List ℕ → Target → ℕ → Kind → Result Variable Trap
resolved_variable_by s t w (K.Scalar k) = Ok (variable t w)
resolved_variable_by s t w (K.Array a) = Ok (variable t w)
resolved_variable_by s t w (K.Indirect u) = resolved_target s u
resolved_variable_by s t w K.Undefined = Ok (variable t w)
resolved_variable_by s t w K.Invalid = Ok (variable t w)

unfoldable pub resolved_variable : List ℕ → Target → Result Variable Trap
resolved_variable s t = resolved_variable_by s t (held_at s t) (kind_of (held_at s t))

unfoldable pub resolved_local : List ℕ → ℕ → ℕ → Result Variable Trap
resolved_local s variables v =
    cond (ltb v 1) (Err (trap_of 3 2)) (cond (ltb variables v) (Err (trap_of 3 2)) (resolved_variable s (Local (stack (lbase s - v)))))

unfoldable pub resolved_global : List ℕ → ℕ → Result Variable Trap
resolved_global s g =
    cond (ltb g 8) (Err (trap_of 3 3)) (cond (leb (blockptr s) g) (Err (trap_of 3 3)) (resolved_variable s (Global (segment g))))

abbrev pub resolved : List ℕ → ℕ → Address → Result Variable Trap
resolved s variables (A.Local v) = resolved_local s variables v
resolved s variables (A.Global g) = resolved_global s g.0

-- Read as the manual's answer.
abbrev pub variable_seen : List ℕ → Result Variable Trap → OrTrap manual.Variable
variable_seen s (Ok v) = gives (manual.at v.target (read s v.held))
variable_seen s (Err t) = trap t.class t.number

-- The word is the variable's.
abbrev pub Sure : List ℕ → Result Variable Trap → Type 0
Sure s (Ok v) = v.held ≡ held_at s v.target
Sure s (Err t) = Unit {0}
