-- How the code carries out a plan whose first effect asks for a block, by the answer to it; and effects by the words that the
-- code hands over.
use Prim.Native.Nat.{ℕ}
use mathlib.Core.Path.{◌≡◌, refl}
use mathlib.Core.Bool.{Bool, true, false, cond}
use mathlib.Core.List.{List, [], ◌∷◌}
use Rattle.descriptor.specs.declared.Target.{Target}
use Rattle.segment.specs.Blocks.{need}
use Rattle.manual.specs.OrTrap.{gives}
use Rattle.manual.specs.Effects.{variable, operand, made, Effect, replaces, jumps}
use Rattle.effects.specs.Sources.{held_at, operand_at}
use Rattle.effects.specs.Perform.{replace, store_at, store, perform, performs, none_for, is_full, first_full}
use Rattle.effects.specs.Carried.{did, outcome_of, carry}
use Rattle.std.specs.Prelude.{Ok, Err}
use Rattle.trap.specs.Trap.{trap_of}
use Rattle.trap.specs.declared.Trap.{Trap}
use Rattle.effects_code.specs.Done.{replace_shared, store_shared, answered, full_or_done, attempt}
use Rattle.effects_code.proofs.Placing.{full-by-need}

-- ---- effects by their words

pub replace-variable : (s : List ℕ) (n : ℕ) (t : Target) → replace_shared s n (held_at s t) ≡ replace s n (variable t)
unfolding replace_shared replace
replace-variable s n t = refl

pub store-operand : (s : List ℕ) (t : Target) (i : ℕ) → store_shared s t (operand_at s i) ≡ store s t (operand i)
unfolding store_shared store store_at
store-operand s t i = refl

-- ---- plans

pub full-made : (s : List ℕ) (n : ℕ) (shape ravel : List ℕ) (place : ℕ) → first_full s (replaces n (made shape ravel) ∷ jumps place ∷ []) ≡ none_for s (need shape ravel)
full-made s n shape ravel place = full-by-need s shape ravel (replaces n (made shape ravel)) refl

-- by the code's answer to the first effect
module _ (s : List ℕ) (e : Effect) (es : List Effect) where
  pub carry-refused : {trap : Trap} → Err trap ≡ full_or_done s e → did (Err trap) (attempt s e) ≡ carry s (gives (e ∷ es))
  unfolding full_or_done attempt
  carry-refused {trap} full = by-test (is_full s e) full
    where
      by-test : (b : Bool) → Err trap ≡ answered b
          → did (Err trap) (cond b s (perform s e)) ≡ cond b (did (Err (trap_of 1 2)) s) (did (Ok (outcome_of (e ∷ es))) (performs (perform s e) es))
      by-test true same = cc
      by-test false same = cc

  pub carry-served : {done : Unit} → Ok done ≡ full_or_done s e → did (Ok (outcome_of (e ∷ es))) (performs (attempt s e) es) ≡ carry s (gives (e ∷ es))
  unfolding full_or_done attempt
  carry-served {done} served = by-test (is_full s e) served
    where
      by-test : (b : Bool) → Ok done ≡ answered b
          → did (Ok (outcome_of (e ∷ es))) (performs (cond b s (perform s e)) es) ≡ cond b (did (Err (trap_of 1 2)) s) (did (Ok (outcome_of (e ∷ es))) (performs (perform s e) es))
      by-test true same = cc
      by-test false same = refl
