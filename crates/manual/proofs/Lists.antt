-- A property of a plan goes down the manual's lists of traps, line by line.
use Prim.Native.Nat.{ℕ}
use mathlib.Core.Path.{◌≡◌, refl, subst}
use mathlib.Core.Bool.{Bool, true, false, cond}
use Rattle.manual.specs.OrTrap.{OrTrap, gives, trap, and_then, stop_if}
use Rattle.manual.specs.Traps.{listed, InTable}
use Rattle.manual.specs.Cases.{OfPlan}

-- ---- any property

module _ {A : Type 0} (P : A → Type 0) (T : ℕ → ℕ → Type 0) where
  pub stops : (test : Bool) (class number : ℕ) (rest : OrTrap A) → T class number → (test ≡ false → OfPlan P T rest)
      → OfPlan P T (stop_if test class number rest)
  stops true class number rest t h = t
  stops false class number rest t h = h refl

  pub goes : {B : Type 0} (x : OrTrap B) (next : B → OrTrap A) → ((class number : ℕ) → x ≡ trap class number → T class number)
      → ((b : B) → x ≡ gives b → OfPlan P T (next b)) → OfPlan P T (and_then x next)
  goes (gives b) next t h = h b refl
  goes (trap class number) next t h = t class number refl

  pub either : (test : Bool) (x y : OrTrap A) → (test ≡ true → OfPlan P T x) → (test ≡ false → OfPlan P T y) → OfPlan P T (cond test x y)
  either true x y h k = h refl
  either false x y h k = k refl

-- ---- of the traps alone

module _ (T : ℕ → ℕ → Type 0) where
  abbrev pub Within : {A : Type 0} → OrTrap A → Type 0
  Within x = OfPlan (λ a. Unit {0}) T x

  pub within : {A : Type 0} (x : OrTrap A) → Within x → (class number : ℕ) → x ≡ trap class number → T class number
  within x h class number e = subst Within e h

  module _ {A : Type 0} where
    pub stops-within : (test : Bool) (class number : ℕ) (rest : OrTrap A) → T class number → Within rest → Within (stop_if test class number rest)
    stops-within test class number rest t h = stops (λ a. Unit {0}) T test class number rest t (λ e. h)

    pub goes-within : {B : Type 0} (x : OrTrap B) (next : B → OrTrap A) → Within x → ((b : B) → Within (next b)) → Within (and_then x next)
    goes-within x next t h = goes (λ a. Unit {0}) T x next (within x t) (λ b e. h b)

    pub chosen-within : (test : Bool) (x y : OrTrap A) → Within x → Within y → Within (cond test x y)
    chosen-within test x y h k = either (λ a. Unit {0}) T test x y (λ e. h) (λ e. k)

-- ---- that a trap is in the table

abbrev pub InTheTable : ℕ → ℕ → Type 0
InTheTable class number = listed class number ≡ true

abbrev pub Listed : {A : Type 0} → OrTrap A → Type 0
Listed x = Within InTheTable x

pub in-table : {A : Type 0} (x : OrTrap A) → Listed x → InTable x
in-table = within InTheTable

pub of-table : {A : Type 0} (x : OrTrap A) → InTable x → Listed x
of-table (gives a) h = tt
of-table (trap class number) h = h class number refl

module _ {A : Type 0} where
  pub stops-listed : (test : Bool) (class number : ℕ) (rest : OrTrap A) → listed class number ≡ true → Listed rest
      → Listed (stop_if test class number rest)
  stops-listed = stops-within InTheTable

  pub goes-listed : {B : Type 0} (x : OrTrap B) (next : B → OrTrap A) → Listed x → ((b : B) → Listed (next b)) → Listed (and_then x next)
  goes-listed = goes-within InTheTable
