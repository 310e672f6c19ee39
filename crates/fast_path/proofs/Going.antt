-- GO, and GO_TRUE and GO_FALSE with the integer 0 or 1, to a place of the code.
use Rattle.std.specs.Prelude.{Ok}
use Prim.Native.Nat.{ℕ, ◌+◌, ◌-◌, ◌*◌, ◌/◌, ◌^◌, ◌≤◌, ◌<◌}
use native.Mathlib.Omega.{arith}
use native.Mathlib.Nat.{mod-eq_of_lt}
use mathlib.Core.Path.{◌≡◌, refl, sym, ap, ◌∙◌}
use mathlib.Core.Bool.{Bool, true, false, cond, not}
use mathlib.Core.List.{List, [], ◌∷◌, ◌++◌}
use lib.Dec.{eqb}
use lib.ListN.{set}
use borrow.Author.Tests.{le-ltb, lt-leb, eqb-true, eqb-false}
use Rattle.descriptor.specs.Kinds.{bit, kind_of, integer_kind, is_scalar}
use Rattle.scalar.specs.declared.Truth.TheVariants as T
use Rattle.scalar.specs.Reading.{truth_of, truth_units}
use Rattle.scalar.specs.Value.{units}
use Rattle.segment.specs.State.{sbase, lbase, ltop, set_ltop}
use Rattle.segment.specs.Stack.{code_word_at, set_pctr}
use Rattle.procedure.specs.declared.header.Header.{Header}
use Rattle.procedure.specs.Headers.{code_start, code_end}
use Rattle.manual.specs.OrTrap.{gives}
use Rattle.manual.specs.Effects.{Effect, discards, jumps}
use Rattle.manual.specs.Control.{jump_to, go, go_if}
use Rattle.effects.specs.Sources.{operand_at}
use Rattle.effects.specs.Seen.{temporaries, seen}
use Rattle.effects.specs.Perform.{perform}
use Rattle.operands.proofs.Seen.{count-seen}
use Rattle.effects.specs.declared.Outcome.TheVariants.{Finished}
use Rattle.effects.specs.Carried.{did, carry}
use Rattle.fast_path.proofs.Words.{scalar-no-array, scalar-operand, discarded}

-- PCTR written with the whole of its word: a place of sixteen bits is the lower half.
pub whole-jumped : (s : List ℕ) (place : ℕ) {t : List ℕ} → place < 2 ^ 16 → t ≡ set s (sbase s + lbase s + 1) (code_word_at s (lbase s) / 2 ^ 16 * 2 ^ 16 + place) → t ≡ perform s (jumps place)
unfolding set_pctr
whole-jumped s place small done = done ∙ rw (mod-eq_of_lt small)

-- To a place of the function's code.
pub in_code : (h : Header) {number end to : ℕ} → to ≡ number → code_start ≤ number → number < end → end ≡ code_end h → (code_start ≤ to) × (to < code_end h)
in_code h made low high ends = (rw made low, rw (made, ← ends) high)

module _ (h : Header) (place : ℕ) (low : code_start ≤ place) (high : place < code_end h) where
  jump-inside : (before : List Effect) → jump_to h place before ≡ gives (before ++ (jumps place ∷ []))
  jump-inside before = rw (le-ltb place code_start low, lt-leb (code_end h) place high)

  pub gone : (s : List ℕ) {t : List ℕ} → t ≡ perform s (jumps place) → did (Ok Finished) t ≡ carry s (go h place)
  unfolding go
  gone s done = ap (did (Ok Finished)) done ∙ ap (carry s) (sym (jump-inside []))

-- The integers 0 and 1 are read as false and true.
bit-scalar : (b : Bool) → is_scalar (bit b) ≡ true
unfolding is_scalar kind_of integer_kind
bit-scalar true = refl
bit-scalar false = refl

bit-truth : (b : Bool) → truth_of (bit b) ≡ T.Value b
unfolding truth_of truth_units units
bit-truth true = refl
bit-truth false = refl

as-bit : (w : ℕ) → w ≤ 1 → w ≡ bit (eqb w 1)
as-bit w small = by-test (eqb w 1) refl
  where
    by-test : (b : Bool) → eqb w 1 ≡ b → w ≡ bit b
    by-test true e = eqb-true w 1 e
    by-test false e = omega (arith, eqb-false w 1 e)

same_bit : (wanted b : Bool) → bit b ≡ bit wanted → cond wanted b (not b) ≡ true
same_bit true true e = refl
same_bit true false e = absurd (omega arith)
same_bit false true e = absurd (omega arith)
same_bit false false e = refl

other-bit : (wanted b : Bool) → (bit b ≡ bit wanted → ⊥) → cond wanted b (not b) ≡ false
other-bit true true e = absurd (e refl)
other-bit true false e = refl
other-bit false true e = refl
other-bit false false e = absurd (e refl)

module _ (s : List ℕ) (h : Header) (next to : ℕ) (wanted : Bool) (some : 1 ≤ temporaries s) (small : operand_at s 0 ≤ 1) where
  abbrev held : Bool
  held = eqb (operand_at s 0) 1

  is-bit : operand_at s 0 ≡ bit held
  is-bit = as-bit (operand_at s 0) small

  is-scalar : is_scalar (operand_at s 0) ≡ true
  is-scalar = ap is_scalar is-bit ∙ bit-scalar held

  abbrev pub left : List ℕ
  left = set_ltop s (ltop s - 1)

  after-discard : (place : ℕ) {u t : List ℕ} → u ≡ left → t ≡ perform u (jumps place) → did (Ok Finished) t ≡ carry s (gives (discards 1 ∷ jumps place ∷ []))
  after-discard place dropped done =
      ap (did (Ok Finished)) (done ∙ ap (λ (v : List ℕ). perform v (jumps place)) (dropped ∙ sym (discarded s (scalar-no-array (operand_at s 0) is-scalar))))

  planned : go_if (seen s) h next wanted to ≡ cond (cond wanted held (not held)) (jump_to h to (discards 1 ∷ [])) (gives (discards 1 ∷ jumps next ∷ []))
  unfolding go_if
  planned = rw (count-seen s, le-ltb (temporaries s) 1 some, scalar-operand s 0 (omega arith) is-scalar, truth)
    where
      truth : truth_of (operand_at s 0) ≡ T.Value held
      truth = ap truth_of is-bit ∙ bit-truth held

  module _ {number : ℕ} (named : number ≡ bit wanted) where
    pub jump-taken : {u t : List ℕ} → code_start ≤ to → to < code_end h → operand_at s 0 ≡ number → u ≡ left → t ≡ perform u (jumps to) → did (Ok Finished) t ≡ carry s (go_if (seen s) h next wanted to)
    jump-taken low high same dropped done = after-discard to dropped done ∙ ap (carry s) (sym taken)
      where
        taken : go_if (seen s) h next wanted to ≡ gives (discards 1 ∷ jumps to ∷ [])
        taken = planned ∙ rw (same_bit wanted held (sym is-bit ∙ same ∙ named)) (jump-inside h to low high (discards 1 ∷ []))

    pub jump-passed : {u t : List ℕ} → (operand_at s 0 ≡ number → ⊥) → u ≡ left → t ≡ perform u (jumps next) → did (Ok Finished) t ≡ carry s (go_if (seen s) h next wanted to)
    jump-passed other dropped done = after-discard next dropped done ∙ ap (carry s) (sym passed)
      where
        passed : go_if (seen s) h next wanted to ≡ gives (discards 1 ∷ jumps next ∷ [])
        passed = planned ∙ rw (other-bit wanted held (λ e. other (is-bit ∙ e ∙ sym named)))
