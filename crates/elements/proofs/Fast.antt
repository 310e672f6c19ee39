-- The fast loops over two operands: one law for any operator on words, of which each turn tells whether all was fine.
use Rattle.std.proofs.Common.{Ok}
use Prim.Native.Nat.{ℕ, ◌+◌, ◌<◌, ◌≤◌}
use native.Mathlib.Omega.{arith}
use mathlib.Core.Path.{◌≡◌, refl, sym, ap, ◌∙◌}
use mathlib.Core.Bool.{Bool, true}
use mathlib.Core.List.{List}
use lib.ListN.{length, get_or, take, set, length-set}
use Rattle.scalar.specs.Results.{Answer}
use Rattle.manual.specs.OrTrap.{OrTrap}
use Rattle.manual.specs.Values.{answered, zip, spread}
use Rattle.elements.specs.Parts.{Operands, Relied}
use Rattle.elements.proofs.Collecting.{Written, start, word, ended, length_pairs, pair-at, pairs-are, spans-below}

-- The results of n pairs.
abbrev results : (ℕ → ℕ → Answer) → ℕ → List ℕ → List ℕ → List (OrTrap ℕ)
results f n a b = zip (λ x y. answered (f x y)) (spread n a) (spread n b)

-- After i turns: the words so far are the results, where all was fine.
pub record Fast (f : ℕ → ℕ → Answer) (fine : Type 0) (a b : List ℕ) (n : ℕ) (out₀ out : List ℕ) (i : ℕ) : Type 0 where
  pub operands : Operands a b n
  pub room : n ≤ length out₀
  pub kept : length out ≡ length out₀
  pub within : i ≤ n
  pub right : fine → Written (results f n a b) out i

pub begins : {f : ℕ → ℕ → Answer} {fine : Type 0} {n : ℕ} {a b out : List ℕ} → Operands a b n → n ≤ length out → Fast f fine a b n out out 0
begins o h = record { operands = o; room = h; kept = refl; within = omega arith; right = λ z. start }

module _ {f : ℕ → ℕ → Answer} {fine : Type 0} {n i : ℕ} {a b out₀ out : List ℕ} (inv : Fast f fine a b n out₀ out i) where
  module _ (more : i < n) where
    pub first-there : (length a ≡ 1 → ⊥) → i < length a
    first-there = spans-below inv.operands.first more

    pub second-there : (length b ≡ 1 → ⊥) → i < length b
    second-there = spans-below inv.operands.second more

    -- A turn: the elements x and y are picked, and w is written. If all is still fine, it was, and w is the result.
    pub goes_on : {x y w : ℕ} {still : Type 0} → ((m : ℕ) → i < m → x ≡ get_or (spread m a) i 0) → ((m : ℕ) → i < m → y ≡ get_or (spread m b) i 0)
        → (still → fine × (f x y ≡ Ok w)) → Fast f still a b n out₀ (set out i w) (i + 1)
    goes_on first second is =
        record {
          operands = inv.operands;
          room = inv.room;
          kept = simp length-set inv.kept;
          within = omega arith;
          right = λ z. word (inv.right (is z).0) (pair-at (λ x y. answered (f x y)) inv.operands more (first n more) (second n more)) (ap answered (is z).1) (omega (arith, inv.room, inv.kept));
        }

  pub ends : {says : Bool} → i ≡ n → (says ≡ true → fine) → Relied f says a b (take n out)
  ends all is says_so =
      sym (ended n (inv.right (is says_so)) (length_pairs (λ x y. answered (f x y)) inv.operands) all)
      ∙ pairs-are (λ x y. answered (f x y)) inv.operands
