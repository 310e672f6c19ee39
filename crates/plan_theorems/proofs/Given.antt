-- What a result has, if one is given: a statement about a plan goes down the manual's lists of traps.
use Prim.Native.Nat.{ℕ}
use mathlib.Core.Path.{◌≡◌, subst}
use mathlib.Core.Bool.{Bool, true, false, cond}
use Rattle.manual.specs.OrTrap.{OrTrap, gives, trap, and_then, stop_if}
use Rattle.manual.specs.Cases.{OfPlan}
use Rattle.manual.proofs.Lists.{stops, either}

abbrev pub AnyTrap : ℕ → ℕ → Type 0
AnyTrap class number = Unit {0}

abbrev pub Given : {A : Type 0} → (A → Type 0) → OrTrap A → Type 0
Given P x = OfPlan P AnyTrap x

pub passed : {A : Type 0} (P : A → Type 0) (b : Bool) (class number : ℕ) (x : OrTrap A) → (b ≡ false → Given P x) → Given P (stop_if b class number x)
passed P b class number x h = stops P AnyTrap b class number x tt h

pub chained : {A B : Type 0} (P : A → Type 0) (Q : B → Type 0) (x : OrTrap A) (next : A → OrTrap B) → Given P x → ((a : A) → P a → Given Q (next a))
    → Given Q (and_then x next)
chained P Q (gives a) next h k = k a h
chained P Q (trap class number) next h k = tt

pub both : {A : Type 0} (P : A → Type 0) (b : Bool) (x y : OrTrap A) → (b ≡ true → Given P x) → (b ≡ false → Given P y) → Given P (cond b x y)
both P b x y h k = either P AnyTrap b x y h k

-- of what is given
pub given : {A : Type 0} (P : A → Type 0) (x : OrTrap A) (a : A) → Given P x → x ≡ gives a → P a
given P x a h e = subst (Given P) e h
