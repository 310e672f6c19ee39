-- A number past all those of a table finds nothing in it.
use Prim.Native.Nat.{ℕ, ◌+◌, ◌<◌, ◌≤◌}
use mathlib.Core.Path.{◌≡◌, refl}
use mathlib.Core.Bool.{Bool, true, false, ◌&&◌, false≢true}
use mathlib.Core.List.{List, [], ◌∷◌}
use native.Mathlib.Omega.{arith}
use lib.Dec.{ltb}
use borrow.Author.Tests.{ltb-true, ne_eqb}
use Rattle.operator.specs.Table.{lookup}

-- Every number of a table is below the bound.
abbrev pub all_below : {A : Type 0} → ℕ → List (ℕ × A) → Bool
all_below bound [] = true
all_below bound (entry ∷ table) = ltb entry.0 bound && all_below bound table

module _ {A : Type 0} (k bound : ℕ) (past : bound ≤ k) (none : A) where
  past-entry : (entry : ℕ × A) (table : List (ℕ × A)) (first : Bool) → ltb entry.0 bound ≡ first → (first && all_below bound table) ≡ true
      → (all_below bound table ≡ true → lookup k table none ≡ none) → lookup k (entry ∷ table) none ≡ none
  past-entry entry table true e below found =
      let h = ltb-true entry.0 bound e in
      simp (ne_eqb k entry.0 (λ same. omega (arith, same))) (found below)
  past-entry entry table false e below found = absurd (false≢true below)

  pub past-table : (table : List (ℕ × A)) → all_below bound table ≡ true → lookup k table none ≡ none
  past-table [] below = refl
  past-table (entry ∷ table) below = past-entry entry table (ltb entry.0 bound) refl below (past-table table)
