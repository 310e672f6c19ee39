-- The second word of a frame without its PCTR says the same of the function.
use Prim.Native.Nat.{ℕ, ◌*◌, ◌/◌, ◌^◌, ◌≤◌}
use mathlib.Core.Path.{◌≡◌, refl}
use mathlib.Core.Bool.{Bool, true, false}
use mathlib.Core.List.{List}
use native.Mathlib.Omega.{arith}
use lib.Dec.{ltb}
use borrow.Author.Tests.{ltb-true, ltb-false, lt-ltb, le-ltb}
use Rattle.segment.specs.Stack as stack
use Rattle.acceptance.specs.Frames.{known, arguments, variables}

module _ (w : ℕ) where
  abbrev bare : ℕ
  bare = w / 2 ^ 16 * 2 ^ 16

  pub same-alternate : stack.alternate_bit bare ≡ stack.alternate_bit w
  same-alternate = omega arith

  pub same_number : stack.function_number bare ≡ stack.function_number w
  same_number = omega arith

  same-short : ltb bare (2 ^ 28) ≡ ltb w (2 ^ 28)
  same-short = go (ltb w (2 ^ 28)) refl
    where
      go : (b : Bool) → ltb w (2 ^ 28) ≡ b → ltb bare (2 ^ 28) ≡ b
      go true e = lt-ltb bare (2 ^ 28) (omega (arith, ltb-true w (2 ^ 28) e))
      go false e = le-ltb bare (2 ^ 28) (omega (arith, ltb-false w (2 ^ 28) e))

  module _ (regular alternate : List ℕ) where
    pub same_known : known regular alternate bare ≡ known regular alternate w
    unfolding known
    same_known = rw (same-short, same-alternate, same_number)

    pub same-arguments : arguments regular alternate bare ≡ arguments regular alternate w
    unfolding arguments
    same-arguments = rw (same-alternate, same_number)

    pub same-variables : variables regular alternate bare ≡ variables regular alternate w
    unfolding variables arguments
    same-variables = rw (same-alternate, same_number)

    -- arguments are variables
    pub most-arguments : arguments regular alternate w ≤ variables regular alternate w
    unfolding variables
    most-arguments = omega arith
