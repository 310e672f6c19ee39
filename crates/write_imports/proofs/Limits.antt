-- Numbers put into a buffer one after the other, none of them above a limit.
use Prim.Native.Nat.{ℕ, ◌≤◌}
use mathlib.Core.Path.{◌≡◌}
use mathlib.Core.List.{List}
use lib.ListN.{length, take}
use Rattle.imports.specs.Encoding.{AtMost}

-- n numbers are in the buffer
pub record Filling (most : ℕ) (before out : List ℕ) (n : ℕ) : Type 0 where
  pub as_long : length out ≡ length before
  pub within : n ≤ length out
  pub below : AtMost most (take n out)
