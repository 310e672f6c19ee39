-- Of scalars every operator gives a scalar, or traps: no minus zero, no stray bit. Assumes nothing.
use Rattle.std.specs.Prelude.{ℕ, ◌^◌, ◌<◌, ◌≡◌, true, Ok}
use Rattle.descriptor.specs.Kinds.{is_scalar}
use Rattle.operator.specs.declared.Monadic.{Monadic}
use Rattle.operator.specs.declared.Dyadic.{Dyadic}
use Rattle.scalar.specs.Operators.{monadic_of, dyadic_of}

pub record Valid (w : ℕ) : Type 0 where
  pub word : w < 2 ^ 32
  pub scalar : is_scalar w ≡ true

pub record ValidResults : Type 0 where
  pub monadic : (operator : Monadic) (a w : ℕ) → Valid a → monadic_of operator a ≡ Ok w → Valid w
  pub dyadic : (operator : Dyadic) (a b w : ℕ) → Valid a → Valid b → dyadic_of operator a b ≡ Ok w → Valid w
