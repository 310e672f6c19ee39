-- A list of numbers read number by number.
use Prim.Native.Nat.{ℕ, zero, suc, ◌+◌, ◌-◌, ◌<◌}
use native.Mathlib.Nat.{not-suc-le-zero}
use native.Mathlib.Omega.{arith}
use mathlib.Core.Path.{◌≡◌, ◌∙◌}
use mathlib.Core.Bool.{true, false}
use mathlib.Core.List.{List}
use lib.Dec.{eqb, leb}
use lib.ListN.{length, set}
use Rattle.line_tool.specs.Tokens.{token_at, text_of}
use Rattle.line_tool.specs.Numbers.{number_in}
use Rattle.line_tool.specs.Lists.{Listing, listing, listed, misread, with_number, turn, numbers_at}
use Rattle.line_tool.specs.declared.tokens.Token.{Token}
use Rattle.line_tool.specs.declared.fault.Fault.{Fault}
use Rattle.line_tool.specs.declared.fault.Fault.TheVariants.{PastEnd}
use Rattle.line_tool.specs.declared.number.Base.{Base}
use Rattle.std.proofs.Common.{Ok, Err}

-- what is still to be read comes to the goal
pub record ListFrom (goal : Listing) (base : Base) (line : List ℕ) (left at n : ℕ) (out : List ℕ) : Type 0 where
  pub so_far : numbers_at base line left at n out ≡ goal

-- one turn, with the token at the place
turn_at : Base → List ℕ → ℕ → ℕ → ℕ → List ℕ → Token → Listing
turn_at base line left at n out token =
    turn base line at n out token (λ value. numbers_at base line left token.end (n + 1) (set out n value))

turn_is : (base : Base) (line : List ℕ) (left at n : ℕ) (out : List ℕ) → 0 < left → turn_at base line (left - 1) at n out (token_at line at) ≡ numbers_at base line left at n out
unfolding numbers_at turn_at
turn_is base line zero at n out h = absurd (not-suc-le-zero h)
turn_is base line (suc left) at n out h = let e : suc left - 1 ≡ left = omega arith in rw e

module _ {goal : Listing} {base : Base} {line : List ℕ} {left at n : ℕ} {out : List ℕ} (f : ListFrom goal base line left at n out) where
  pub list-most : left ≡ 0 → listing (listed n at) out ≡ goal
  unfolding numbers_at
  list-most e = rw e at f.so_far

  module _ {t : Token} (l : 0 < left) (e : t ≡ token_at line at) where
    here : turn_at base line (left - 1) at n out t ≡ goal
    here = rw e (turn_is base line left at n out l ∙ f.so_far)

    pub list-end : eqb t.start t.end ≡ true → listing (listed n at) out ≡ goal
    unfolding turn_at turn
    list-end p = rw p at here

    pub list-wrong : {fault : Fault} → eqb t.start t.end ≡ false → number_in base (text_of line t) ≡ Err fault → listing (misread fault t) out ≡ goal
    unfolding turn_at turn with_number
    list-wrong p q = rw (p, q) at here

    pub list_full : {v : ℕ} → eqb t.start t.end ≡ false → number_in base (text_of line t) ≡ Ok v → leb (length out) n ≡ true → listing (misread PastEnd t) out ≡ goal
    unfolding turn_at turn with_number
    list_full p q r = rw (p, q, r) at here

    pub list_on : {v : ℕ} → eqb t.start t.end ≡ false → number_in base (text_of line t) ≡ Ok v → leb (length out) n ≡ false → ListFrom goal base line (left - 1) t.end (n + 1) (set out n v)
    unfolding turn_at turn with_number
    list_on p q r = record { so_far = rw (p, q, r) at here }
