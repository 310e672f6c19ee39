-- Instructions that push: the loads of variables, constants, UNDEFINED, GETORIGIN, and the MEMREF operations REFERENCE and
-- TEST_DEFINED. The manual's sections of these names; (1,1) by decision 19. Assumes nothing.
use Rattle.std.specs.Prelude.{ℕ, Bool, true, false, cond, not, List, [], ◌∷◌, ltb, length}
use Rattle.descriptor.specs.Kinds.{is_scalar}
use Rattle.segment.specs.Cells.{Cell, undefined, indirect, value, invalid}
use Rattle.manual.specs.OrTrap.{OrTrap, gives, and_then, stop_if}
use Rattle.manual.specs.Effects.{Source, variable, word, undefined_value, reference, made, replaces, jumps, Plan}
use Rattle.manual.specs.Seen.{Seen, Variable}
use Rattle.manual.specs.Values.{any}

-- The result is pushed, and the next instruction follows. "Runtime stack overflow if room for one more cell doesn't exist"
abbrev pub push : Seen → ℕ → Source → Plan
push seen next source = stop_if (ltb seen.room 1) 1 1 (gives (replaces 0 source ∷ jumps next ∷ []))

abbrev pub is_undefined : Cell → Bool
is_undefined undefined = true
is_undefined (indirect t) = false
is_undefined (value shape ravel) = false
is_undefined invalid = false

-- SHORTLOCAL, LONGLOCAL, LONGGLOBAL: a copy of the variable's descriptor; (10,0) where it is undefined.
unfoldable pub load : Seen → ℕ → OrTrap Variable → Plan
load seen next resolved =
    and_then resolved (λ v. stop_if (is_undefined v.held) 10 0 (push seen next (variable v.place)))

unfoldable pub refer_to : Seen → ℕ → OrTrap Variable → Plan
refer_to seen next resolved = and_then resolved (λ v. push seen next (reference v.place))

-- "TEST_DEFINED gives 0 for undefined, else 1."
unfoldable pub test_defined : Seen → ℕ → OrTrap Variable → Plan
test_defined seen next resolved = and_then resolved (λ v. push seen next (word (cond (is_undefined v.held) 0 1)))

unfoldable pub push_undefined : Seen → ℕ → Plan
push_undefined seen next = push seen next undefined_value

unfoldable pub get_origin : Seen → ℕ → Plan
get_origin seen next = push seen next (word seen.origin)

-- SHORTCONST: the word of its sign and magnitude. CONSTANT_SCALAR: (3,5) where the word is no scalar.
unfoldable pub short_constant : Seen → ℕ → ℕ → Plan
short_constant seen next w = push seen next (word w)

unfoldable pub constant_scalar : Seen → ℕ → ℕ → Plan
constant_scalar seen next w = stop_if (not (is_scalar w)) 3 5 (push seen next (word w))

unfoldable pub constant_vector : Seen → ℕ → List ℕ → Plan
constant_vector seen next ws = stop_if (any (λ w. not (is_scalar w)) ws) 3 5 (push seen next (made (length ws ∷ []) ws))
