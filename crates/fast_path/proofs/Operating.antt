-- An operator on one operand or two that are scalars, and that gives a word. EAT1.
use Rattle.std.proofs.Common.{Ok}
use Prim.Native.Nat.{ℕ, ◌+◌, ◌-◌, ◌≤◌}
use native.Mathlib.Omega.{arith}
use mathlib.Core.Path.{◌≡◌, sym, ap, ◌∙◌}
use mathlib.Core.Bool.{true, false}
use mathlib.Core.List.{List, [], ◌∷◌}
use lib.ListN.{get_or}
use borrow.Author.Tests.{le-ltb}
use Rattle.descriptor.specs.Fields.{is_array}
use Rattle.descriptor.specs.Kinds.{is_scalar}
use Rattle.operator.specs.declared.Dyadic.{Dyadic}
use Rattle.operator.specs.declared.Monadic.{Monadic}
use Rattle.scalar.specs.Results.{Answer}
use Rattle.scalar.specs.Operators.{monadic_of, dyadic_of}
use Rattle.segment.specs.State.{sbase, ltop, set_ltop}
use Rattle.storage.specs.Arrays.{drop_words}
use Rattle.storage.proofs.Counts.{drop-other}
use Rattle.manual.specs.OrTrap.{gives}
use Rattle.manual.specs.Effects.{word, replaces, jumps}
use Rattle.manual.specs.Values as values
use Rattle.manual.specs.Scalars as plan
use Rattle.manual.specs.Memory.{eat}
use Rattle.effects.specs.Sources.{operand_at}
use Rattle.effects.specs.Seen.{temporaries, seen}
use Rattle.effects.specs.Perform.{bottom_of, finish, replace, discard, perform}
use Rattle.operands.proofs.Seen.{count-seen}
use Rattle.effects.specs.declared.Outcome.TheVariants.{Finished}
use Rattle.effects.specs.Carried.{did, carry}
use Rattle.fast_path.proofs.Words.{scalar-no-array, scalar-operand, dropped-two, discarded}

-- EAT1
pub eaten : (s : List ℕ) → 1 ≤ temporaries s → (next : ℕ) {u t : List ℕ} → u ≡ discard s 1 → t ≡ perform u (jumps next) → did (Ok Finished) t ≡ carry s (eat (seen s) next)
unfolding eat
eaten s some next dropped done =
    rw (count-seen s, le-ltb (temporaries s) 1 some)
    (ap (did (Ok Finished)) (done ∙ ap (λ (v : List ℕ). perform v (jumps next)) dropped))

module _ (s : List ℕ) (some : 1 ≤ temporaries s) {x : ℕ} (top : x ≡ operand_at s 0) (first : is_scalar x ≡ true) where
  one-scalar : is_scalar (operand_at s 0) ≡ true
  one-scalar = ap is_scalar (sym top) ∙ first

  none : is_array (operand_at s 0) ≡ false
  none = scalar-no-array (operand_at s 0) one-scalar

  one-taken : (w : ℕ) → finish s (bottom_of s 1) w ≡ replace s 1 (word w)
  unfolding replace
  one-taken w =
      let at : bottom_of s 1 + 0 ≡ sbase s + ltop s - 0 = omega arith in
      rw (at, drop-other s (operand_at s 0) none)

  module _ (next : ℕ) where
    module _ (op : Monadic) {answer : Answer} {w : ℕ} (computed : answer ≡ monadic_of op x) (gave : answer ≡ Ok w) where
      one-result : monadic_of op (operand_at s 0) ≡ Ok w
      one-result = cc

      one-planned : plan.monadic (seen s) next op ≡ gives (replaces 1 (word w) ∷ jumps next ∷ [])
      unfolding plan.monadic values.monadic values.each
      one-planned = rw (count-seen s, le-ltb (temporaries s) 1 some, scalar-operand s 0 (omega arith) one-scalar, one-result)

      pub scalar-computed : {u t : List ℕ} → u ≡ finish s (bottom_of s 1) w → t ≡ perform u (jumps next) → did (Ok Finished) t ≡ carry s (plan.monadic (seen s) next op)
      scalar-computed replaced done =
          ap (did (Ok Finished)) (done ∙ ap (λ (v : List ℕ). perform v (jumps next)) (replaced ∙ one-taken w))
          ∙ ap (carry s) (sym one-planned)

    pub scalar-eaten : {u t : List ℕ} → u ≡ set_ltop s (ltop s - 1) → t ≡ perform u (jumps next) → did (Ok Finished) t ≡ carry s (eat (seen s) next)
    scalar-eaten dropped done = eaten s some next (dropped ∙ sym (discarded s none)) done

module _ (s : List ℕ) (two : 2 ≤ temporaries s) {x y : ℕ} (top : x ≡ operand_at s 0) (first : is_scalar x ≡ true) (under : y ≡ operand_at s 1) (second : is_scalar y ≡ true) where
  scalar-top : is_scalar (operand_at s 0) ≡ true
  scalar-top = ap is_scalar (sym top) ∙ first

  scalar-under : is_scalar (operand_at s 1) ≡ true
  scalar-under = ap is_scalar (sym under) ∙ second

  taken : (w : ℕ) → finish s (bottom_of s 2) w ≡ replace s 2 (word w)
  unfolding replace
  taken w = ap (λ (u : List ℕ). finish u (bottom_of s 2) w) (sym kept)
    where
      high : bottom_of s 2 + 1 ≡ sbase s + ltop s - 0
      high = omega arith

      low : bottom_of s 2 ≡ sbase s + ltop s - 1
      low = omega arith

      kept : drop_words 2 s (bottom_of s 2) ≡ s
      kept =
          dropped-two s (bottom_of s 2)
          (ap (λ (i : ℕ). is_array (get_or s i 0)) high ∙ scalar-no-array (operand_at s 0) scalar-top)
          (ap (λ (i : ℕ). is_array (get_or s i 0)) low ∙ scalar-no-array (operand_at s 1) scalar-under)

  module _ (next : ℕ) (op : Dyadic) {answer : Answer} {w : ℕ} (combined : answer ≡ dyadic_of op x y) (gave : answer ≡ Ok w) where
    result : dyadic_of op (operand_at s 0) (operand_at s 1) ≡ Ok w
    result = cc

    planned : plan.dyadic (seen s) next op ≡ gives (replaces 2 (word w) ∷ jumps next ∷ [])
    unfolding plan.dyadic values.dyadic values.conform values.pairwise
    planned = rw (count-seen s, le-ltb (temporaries s) 2 two, scalar-operand s 0 (omega arith) scalar-top, scalar-operand s 1 (omega arith) scalar-under, result)

    pub scalars-combined : {u t : List ℕ} → u ≡ finish s (bottom_of s 2) w → t ≡ perform u (jumps next) → did (Ok Finished) t ≡ carry s (plan.dyadic (seen s) next op)
    scalars-combined replaced done =
        ap (did (Ok Finished)) (done ∙ ap (λ (v : List ℕ). perform v (jumps next)) (replaced ∙ taken w))
        ∙ ap (carry s) (sym planned)
