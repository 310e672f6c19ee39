-- RETURN and BRANCH out of the function by the ways that the code goes.
use Prim.Native.Nat.{ℕ, ◌+◌, ◌-◌, ◌<◌, ◌≤◌}
use mathlib.Core.Path.{◌≡◌, refl, sym, ap, ◌∙◌}
use mathlib.Core.Bool.{Bool, true, false, ◌&&◌}
use mathlib.Core.List.{List, [], ◌∷◌}
use lib.Dec.{leb}
use lib.ListN.{get_or}
use borrow.Author.Tests.{lt-ltb, le-ltb}
use Rattle.procedure.specs.declared.header.Header.{Header}
use Rattle.segment.specs.State.{sbase, lbase}
use Rattle.segment.specs.Stack.{last_lbase_at}
use Rattle.manual.specs.Effects.{Effect, discards, leaves}
use Rattle.manual.specs.Seen.{variables_of}
use Rattle.manual.specs.Loads as loads
use Rattle.manual.specs.Control.{leaving, return}
use Rattle.effects.specs.Perform.{perform, performs}
use Rattle.effects.specs.Seen.{seen}
use Rattle.operands.specs.Operands.{is_undefined_word}
use Rattle.operands.proofs.ValuesSeen.{undefined-seen}
use Rattle.effects.specs.declared.Outcome.TheVariants.{Left}
use Rattle.effects.specs.Carried.{did, carry}
use Rattle.std.specs.Prelude.{Result, Ok, Err}
use Rattle.trap.specs.Trap.{trap_of}
use Rattle.trap.specs.declared.Trap.{Trap}
use Rattle.instructions_control.specs.Answers.{left_by}

module _ (s : List ℕ) where
  pub bottom-seen : leb (lbase s) (last_lbase_at s (lbase s)) ≡ (seen s).bottom
  unfolding seen
  bottom-seen = refl

  pub lacks-seen : (result : Bool) → result ≡ true → is_undefined_word (get_or s (sbase s + lbase s - 1) 0) ≡ (result && loads.is_undefined ((seen s).result result))
  unfolding seen
  lacks-seen result has = simp has (sym (undefined-seen s _))

  module _ (h : Header) (temporaries : ℕ) (before : List Effect) where
    pub left_busy : 0 < temporaries → left_by (Err (trap_of 3 12)) h before ≡ leaving (seen s) h temporaries before
    left_busy some = simp (lt-ltb _ _ some)

    module _ (none : temporaries ≤ 0) where
      pub left-bottom : (seen s).bottom ≡ true → left_by (Err (trap_of 3 13)) h before ≡ leaving (seen s) h temporaries before
      left-bottom lowest = simp (le-ltb _ _ none, lowest)

      module _ (above : (seen s).bottom ≡ false) where
        pub left-lacking : (h.result && loads.is_undefined ((seen s).result h.result)) ≡ true → left_by (Err (trap_of 10 0)) h before ≡ leaving (seen s) h temporaries before
        left-lacking lacks = simp (le-ltb _ _ none, above, lacks)

        pub left-allowed : (h.result && loads.is_undefined ((seen s).result h.result)) ≡ false → left_by (Ok tt) h before ≡ leaving (seen s) h temporaries before
        left-allowed has = simp (le-ltb _ _ none, above, has)

  -- what may_leave found out, for the temporaries that it was told
  module _ (h : Header) (r : Result Unit Trap) {n : ℕ} (is : (before : List Effect) → left_by r h before ≡ leaving (seen s) h n before) where
    module _ (all : n ≡ (seen s).count) where
      return-by : left_by r h [] ≡ return (seen s) h
      unfolding return
      return-by = rw (← all) (is [])

      pub return-trap : {t : Trap} → r ≡ Err t → did (Err t) s ≡ carry s (return (seen s) h)
      return-trap found = rw found at (ap (carry s) return-by)

      pub return-left : {t : List ℕ} {allowed : Unit} → r ≡ Ok allowed → t ≡ perform s (leaves (variables_of h) h.result) → did (Ok Left) t ≡ carry s (return (seen s) h)
      return-left found left = ap (did (Ok Left)) left ∙ (rw found at (ap (carry s) return-by))

    module _ (others : n ≡ (seen s).count - 1) where
      dropping-by : left_by r h (discards 1 ∷ []) ≡ leaving (seen s) h ((seen s).count - 1) (discards 1 ∷ [])
      dropping-by = rw (← others) (is (discards 1 ∷ []))

      pub dropping-trap : {t : Trap} → r ≡ Err t → did (Err t) s ≡ carry s (leaving (seen s) h ((seen s).count - 1) (discards 1 ∷ []))
      dropping-trap found = rw found at (ap (carry s) dropping-by)

      pub dropping-left : {t : List ℕ} {allowed : Unit} → r ≡ Ok allowed → t ≡ performs s (discards 1 ∷ leaves (variables_of h) h.result ∷ []) → did (Ok Left) t ≡ carry s (leaving (seen s) h ((seen s).count - 1) (discards 1 ∷ []))
      dropping-left found left = ap (did (Ok Left)) left ∙ (rw found at (ap (carry s) dropping-by))
