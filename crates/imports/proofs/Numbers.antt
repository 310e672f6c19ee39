-- Numbers: what a byte of a number comes to, and where a number ends.
use Prim.Native.Nat.{ℕ, suc, ◌+◌, ◌*◌, ◌-◌, ◌^◌, ◌<◌, ◌≤◌}
use mathlib.Core.Path.{◌≡◌, refl, ap, ◌∙◌}
use mathlib.Core.List.{List}
use native.Mathlib.Omega.{arith}
use lib.ListN.{get_or, length}
use borrow.Author.Tests.{lt-ltb, le-ltb, eq-eqb, ne_eqb}
use Rattle.std.proofs.Common.{Some, None}
use Rattle.imports.specs.Numbers.{FoundNumber, above, groups_at, if_number}

-- ---- the parts of what was found

pub same_value : {m n a b : ℕ} → ◌≡◌ {A = FoundNumber} (Some (m, a)) (Some (n, b)) → m ≡ n
same_value e = ap (λ (found : FoundNumber). if_number found 0 (λ v next. v)) e

pub same_next : {m n a b : ℕ} → ◌≡◌ {A = FoundNumber} (Some (m, a)) (Some (n, b)) → a ≡ b
same_next e = ap (λ (found : FoundNumber). if_number found 0 (λ v next. next)) e

-- ---- one byte

module _ (groups : ℕ) (file : List ℕ) (place : ℕ) where
  pub cut : length file ≤ place → groups_at (suc groups) file place ≡ None
  unfolding groups_at
  cut past = simp (le-ltb place (length file) past)

  module _ (inside : place < length file) (b : ℕ) (byte : b ≡ get_or file place 0) where
    pub last : b < 2 ^ 7 → groups_at (suc groups) file place ≡ Some (b, place + 1)
    unfolding groups_at
    last low = simp (lt-ltb place (length file) inside, ← byte, lt-ltb b (2 ^ 7) low)

    pub more : 2 ^ 7 ≤ b → groups_at (suc groups) file place ≡ above (b - 2 ^ 7) (groups_at groups file (place + 1))
    unfolding groups_at
    more high = simp (lt-ltb place (length file) inside, ← byte, le-ltb b (2 ^ 7) high)

pub unfinished : (file : List ℕ) (place : ℕ) → place < length file → (b : ℕ) → b ≡ get_or file place 0 → 2 ^ 7 ≤ b → groups_at 1 file place ≡ None
unfolding groups_at
unfinished file place inside b byte high = more 0 file place inside b byte high

pub needless : (low high next : ℕ) → high ≡ 0 → above low (Some (high, next)) ≡ None
needless low high next none = simp (eq-eqb high 0 none)

pub weighed : (low high next : ℕ) → (high ≡ 0 → ⊥) → above low (Some (high, next)) ≡ Some (low + 2 ^ 7 * high, next)
weighed low high next some = simp (ne_eqb high 0 some)

-- two low groups
module _ (first second : ℕ) where
  pub both : {found other : FoundNumber} → found ≡ other → above first (above second found) ≡ above first (above second other)
  both same = ap (λ (found : FoundNumber). above first (above second found)) same

  pub weighed-twice : (high next : ℕ) → (high ≡ 0 → ⊥) → above first (above second (Some (high, next))) ≡ Some (first + 2 ^ 7 * (second + 2 ^ 7 * high), next)
  weighed-twice high next some = ap (above first) (weighed second high next some) ∙ weighed first (second + 2 ^ 7 * high) next (λ none. some (omega arith))

  -- four groups, and the last one says that another follows
  pub never_ending : (file : List ℕ) (place : ℕ) → place < length file → 2 ^ 7 ≤ get_or file place 0 → place + 1 < length file → 2 ^ 7 ≤ get_or file (place + 1) 0
      → above first (above second (groups_at 2 file place)) ≡ None
  never_ending file place inside high within marked =
      both (more 1 file place inside _ refl high ∙ ap (above _) (unfinished file (place + 1) within _ refl marked))
