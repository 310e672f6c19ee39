-- The word of a new frame names the function that is called.
use Prim.Native.Nat.{ℕ, ◌+◌, ◌*◌, ◌/◌, ◌^◌, ◌≤◌, ◌<◌}
use mathlib.Core.Path.{◌≡◌, ap}
use mathlib.Core.Bool.{Bool, true, false}
use mathlib.Core.List.{List}
use native.Mathlib.Omega.{arith}
use lib.Dec.{eqb}
use lib.ListN.{length}
use borrow.Author.Tests.{lt-ltb, eq-eqb, ne_eqb}
use Rattle.segment.specs.Cells.{Cell}
use Rattle.segment.specs.Stack as stack
use Rattle.segment.specs.Machine.{Machine}
use Rattle.procedure.specs.Directory.{selected, has_function, nargs_of, nlocals_of}
use Rattle.manual.specs.Control.{frame_word}
use Rattle.acceptance.specs.Frames.{frame_segment, known, arguments, variables}
use Rattle.legality.proofs.Effects.{CanEnter}

-- P and the number of the function.
abbrev word_of : Bool → ℕ → ℕ
word_of selector number = frame_word selector number / 2 ^ 16 * 2 ^ 16

module _ (number : ℕ) (small : number < 2 ^ 11) where
  word_small : (selector : Bool) → word_of selector number < 2 ^ 28
  word_small true = omega arith
  word_small false = omega arith

  word_number : (selector : Bool) → stack.function_number (word_of selector number) ≡ number
  word_number true = omega arith
  word_number false = omega arith

  word-alternate : (P : Bool) → eqb (stack.alternate_bit (word_of P number)) 1 ≡ P
  word-alternate true = eq-eqb (stack.alternate_bit (word_of true number)) 1 (omega arith)
  word-alternate false = ne_eqb (stack.alternate_bit (word_of false number)) 1 (omega arith)

  module _ (regular alternate : List ℕ) (P : Bool) where
    word-segment : frame_segment regular alternate (word_of P number) ≡ selected P regular alternate
    word-segment = ap (λ (p : Bool). selected p regular alternate) (word-alternate P)

    word-known : has_function (selected P regular alternate) number ≡ true → known regular alternate (word_of P number) ≡ true
    unfolding known
    word-known h = rw (lt-ltb (word_of P number) (2 ^ 28) (word_small P), word-segment, word_number P) h

    word-arguments : arguments regular alternate (word_of P number) ≡ nargs_of (selected P regular alternate) number
    unfolding arguments
    word-arguments = rw (word-segment, word_number P)

    word-variables : variables regular alternate (word_of P number) ≡ arguments regular alternate (word_of P number) + nlocals_of (selected P regular alternate) number
    unfolding variables
    word-variables = rw (word-segment, word_number P)

    pub can-enter : (m : Machine Cell) → has_function (selected P regular alternate) number ≡ true → nargs_of (selected P regular alternate) number ≤ length m.temporaries
        → CanEnter regular alternate (nlocals_of (selected P regular alternate) number) (frame_word P number) m
    can-enter m h k = record { function = word-known h; size = word-variables; taken = omega (arith, word-arguments) }
