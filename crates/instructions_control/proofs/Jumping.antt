-- GO, GO_TRUE, GO_FALSE and BRANCH by the ways that the code goes.
use Prim.Native.Nat.{ℕ, ◌<◌, ◌≤◌}
use native.Mathlib.Omega.{arith}
use mathlib.Core.Path.{◌≡◌, refl, sym, ap, ◌∙◌}
use mathlib.Core.Bool.{Bool, true, false, cond, not, beq, ◌||◌}
use mathlib.Core.List.{List, [], ◌∷◌}
use lib.Dec.{ltb, leb, eqb}
use lib.ListN.{length, get_or}
use borrow.Author.Tests.{lt-ltb, le-ltb}
use Rattle.descriptor.specs.declared.address.SegmentAddress.{SegmentAddress}
use Rattle.scalar.specs.Reading.{whole_of}
use Rattle.procedure.specs.declared.header.Header.{Header}
use Rattle.procedure.specs.declared.header.Block.{Block}
use Rattle.procedure.specs.Headers.{code_start, code_end, line_of}
use Rattle.segment.specs.Blocks.{rank_at, elements_at}
use Rattle.manual.specs.OrTrap.{OrTrap, gives, trap, and_then}
use Rattle.manual.specs.Values as values
use Rattle.manual.specs.Effects.{Effect, discards, jumps, Plan}
use Rattle.manual.specs.Scalars.{value_of}
use Rattle.manual.specs.Control.{jump_to, go_if, branch_to, branch}
use Rattle.effects.specs.Sources.{operand_at}
use Rattle.effects.specs.Perform.{perform, performs}
use Rattle.effects.specs.Seen.{whole, read, temporaries, seen}
use Rattle.operands.specs.declared.reading.Value.{Value}
use Rattle.operands.specs.declared.reading.Value.TheVariants.{Array}
use Rattle.operands.specs.Operands.{operand_of, held, value_seen}
use Rattle.operands.proofs.Seen.{count-seen, operand-seen}
use Rattle.operands.proofs.ValuesSeen.{value-seen}
use Rattle.operands.proofs.Whole.{whole-facts}
use Rattle.effects.specs.declared.Outcome.TheVariants.{Finished}
use Rattle.effects.specs.Carried.{did, carry}
use Rattle.std.specs.Prelude.{Option, Result, Ok, Err}
use Rattle.trap.specs.Trap.{trap_of}
use Rattle.trap.specs.declared.Trap.{Trap}
use Rattle.instructions_control.specs.Answers.{tested, branch_by}

-- a place outside the code, and one inside it
module _ (s : List ℕ) (h : Header) (place : ℕ) where
  abbrev outside : Bool
  outside = ltb place code_start || leb (code_end h) place

  pub jump_out : (before : List Effect) → outside ≡ true → did (Err (trap_of 3 1)) s ≡ carry s (jump_to h place before)
  jump_out before out = simp out

  pub jump_in : {t : List ℕ} → outside ≡ false → t ≡ perform s (jumps place) → did (Ok Finished) t ≡ carry s (jump_to h place [])
  jump_in inside done = simp (inside, done)

-- what is read of an operand, by its word
pub truth-by : (s : List ℕ) (w : ℕ) (o : Option Value) → operand_of s w ≡ o → and_then (value_seen s o) values.truth_of_value ≡ and_then (value_of (read s w)) values.truth_of_value
truth-by s w o is = rw (value-seen s w, is)

and-then-twice : {A B C : Type 0} (x : OrTrap A) (f : A → OrTrap B) (g : B → OrTrap C) → and_then x (λ a. and_then (f a) g) ≡ and_then (and_then x f) g
and-then-twice (gives a) f g = refl
and-then-twice (trap class number) f g = refl

as-wanted : (b wanted : Bool) → cond wanted b (not b) ≡ beq b wanted
as-wanted true true = refl
as-wanted true false = refl
as-wanted false true = refl
as-wanted false false = refl

module _ (s : List ℕ) (h : Header) (next : ℕ) (wanted : Bool) (place : ℕ) where
  pub go-if-none : temporaries s < 1 → did (Err (trap_of 3 4)) s ≡ carry s (go_if (seen s) h next wanted place)
  unfolding go_if
  go-if-none none = simp (count-seen s, lt-ltb _ _ none)

  abbrev onward : Bool → Plan
  onward b = cond (cond wanted b (not b)) (jump_to h place (discards 1 ∷ [])) (gives (discards 1 ∷ jumps next ∷ []))

  -- as the condition that its operand holds says
  module _ {w : ℕ} (r : Result Bool Trap) (some : 1 ≤ temporaries s) (is : tested r ≡ and_then (value_of (read s w)) values.truth_of_value) (top : w ≡ operand_at s 0) where
    go-if-by : and_then (tested r) onward ≡ go_if (seen s) h next wanted place
    unfolding go_if
    go-if-by =
        rw (is, top, count-seen s, le-ltb (temporaries s) 1 some, operand-seen s 0 (omega arith))
        (sym (and-then-twice (value_of (read s (operand_at s 0))) values.truth_of_value onward))

    pub go-if-trap : {t : Trap} → r ≡ Err t → did (Err t) s ≡ carry s (go_if (seen s) h next wanted place)
    go-if-trap trapped = ap (λ (q : Result Bool Trap). carry s (and_then (tested q) onward)) (sym trapped) ∙ ap (carry s) go-if-by

    module _ {b : Bool} (found : r ≡ Ok b) where
      truth-found : onward b ≡ go_if (seen s) h next wanted place
      truth-found = ap (λ (q : Result Bool Trap). and_then (tested q) onward) (sym found) ∙ go-if-by

      pub go-if-taken : beq b wanted ≡ true → carry s (jump_to h place (discards 1 ∷ [])) ≡ carry s (go_if (seen s) h next wanted place)
      go-if-taken taken = simp (as-wanted b wanted ∙ taken) at (ap (carry s) truth-found)

      pub go-if-passed : {t : List ℕ} → beq b wanted ≡ false → t ≡ performs s (discards 1 ∷ jumps next ∷ []) → did (Ok Finished) t ≡ carry s (go_if (seen s) h next wanted place)
      go-if-passed passed done = ap (did (Ok Finished)) done ∙ (simp (as-wanted b wanted ∙ passed) at (ap (carry s) truth-found))

module _ (s : List ℕ) (p : List ℕ) (block : Block) (next : ℕ) where
  pub branch-none : temporaries s < 1 → did (Err (trap_of 3 4)) s ≡ carry s (branch (seen s) block.header (line_of p block) next)
  unfolding branch
  branch-none none = simp (count-seen s, lt-ltb _ _ none)

  -- as the kind of its operand says
  pub branch-is : (o : Option Value) → 1 ≤ temporaries s → operand_of s (operand_at s 0) ≡ o → and_then (value_seen s o) (branch_by (seen s) p block next) ≡ branch (seen s) block.header (line_of p block) next
  unfolding branch
  branch-is o some is =
      rw (← is, count-seen s, le-ltb (temporaries s) 1 some, operand-seen s 0 (omega arith), value-seen s (operand_at s 0))

  module _ (array : SegmentAddress) (readable : whole s array.0 ≡ true) where
    abbrev v : values.Value
    v = held s (Array array)

    pub branch-matrix : 1 < rank_at s array.0 → did (Err (trap_of 5 0)) s ≡ carry s (branch_by (seen s) p block next v)
    branch-matrix high = simp ((whole-facts s array.0 readable).lengths, lt-ltb _ _ high)

    module _ {ravel : List ℕ} (low : rank_at s array.0 ≤ 1) (is : ravel ≡ elements_at s array.0) where
      pub branch-empty : {t : List ℕ} → eqb (length ravel) 0 ≡ true → t ≡ performs s (discards 1 ∷ jumps next ∷ []) → did (Ok Finished) t ≡ carry s (branch_by (seen s) p block next v)
      branch-empty none done = simp ((whole-facts s array.0 readable).lengths, le-ltb _ _ low, ← is, none, done)

      pub branch-first : eqb (length ravel) 0 ≡ false → carry s (branch_to (seen s) block.header (line_of p block) (whole_of (get_or ravel 0 0))) ≡ carry s (branch_by (seen s) p block next v)
      branch-first some = simp ((whole-facts s array.0 readable).lengths, le-ltb _ _ low, ← is, some)
