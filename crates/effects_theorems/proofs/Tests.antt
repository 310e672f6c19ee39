-- Where a test both holds and does not; the laws of tests stand in manual.
use mathlib.Core.Path.{◌≡◌}
use mathlib.Core.Bool.{Bool, true, false, ◌||◌, true≢false}
pub use Rattle.manual.proofs.Tests.{none-holds, one_holds}

pub never : {A : Type 0} → true ≡ false → A
never e = absurd (true≢false e)

pub first_holds : (a b : Bool) → a ≡ true → (a || b) ≡ true
first_holds a b h = rw h
