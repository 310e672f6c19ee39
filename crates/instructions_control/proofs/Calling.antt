-- CALL by the ways that the code goes.
use Rattle.std.proofs.Common.{Some, None}
use Prim.Native.Nat.{ℕ, ◌+◌, ◌-◌, ◌<◌, ◌≤◌}
use native.Mathlib.Omega.{arith}
use mathlib.Core.Path.{◌≡◌, refl, ap, ◌∙◌}
use mathlib.Core.Bool.{Bool, true, false, cond, not}
use mathlib.Core.List.{List}
use lib.ListN.{get_or, length, length-set}
use lib.Seq.{get_or-set_other}
use borrow.Author.Tests.{lt-ltb, le-ltb, eq-eqb, ne_eqb}
use Rattle.procedure.specs.declared.header.Header.{Header}
use Rattle.procedure.specs.declared.header.Block.{Block}
use Rattle.procedure.specs.Headers.{block_at}
use Rattle.procedure.specs.Directory.{start_of, has_function, selected, function_of}
use Rattle.segment.specs.State.{sbase, ltop, lbase}
use Rattle.segment.specs.Stack.{set_pctr}
use Rattle.manual.specs.OrTrap.{trap, stop_if}
use Rattle.manual.specs.Effects.{jumps, Plan}
use Rattle.manual.specs.Seen.{Seen}
use Rattle.manual.specs.Control.{frame_word, call}
use Rattle.effects.specs.Perform.{perform, enter}
use Rattle.effects.specs.Seen.{temporaries, seen}
use Rattle.operands.proofs.Seen.{count-seen, room-seen}
use Rattle.effects.specs.declared.Outcome.TheVariants.{Entered}
use Rattle.std.specs.Prelude.{Ok, Err}
use Rattle.trap.specs.Trap.{trap_of}
use Rattle.effects.specs.Carried.{did, carry}
use Rattle.instructions_control.specs.Answers.{call_in}

module _ (s : List ℕ) (next : ℕ) (called : Header) (selector : Bool) (number arguments : ℕ) where
  pub call-few : temporaries s < arguments → did (Err (trap_of 3 4)) s ≡ carry s (call (seen s) next called selector number arguments)
  unfolding call
  call-few few = simp (count-seen s, lt-ltb _ _ few)

  module _ (some : arguments ≤ temporaries s) where
    pub call-other : (arguments ≡ called.nargs → ⊥) → did (Err (trap_of 3 4)) s ≡ carry s (call (seen s) next called selector number arguments)
    unfolding call
    call-other other = simp (count-seen s, le-ltb _ _ some, ne_eqb _ _ other)

    module _ (same : arguments ≡ called.nargs) where
      pub call-full : length s - (sbase s + ltop s + 1) < called.nlocals + 2 → did (Err (trap_of 1 1)) s ≡ carry s (call (seen s) next called selector number arguments)
      unfolding call
      call-full full = simp (count-seen s, room-seen s, le-ltb _ _ some, eq-eqb _ _ same, lt-ltb _ _ full)

      pub call_enters : {t u : List ℕ} → called.nlocals + 2 ≤ length s - (sbase s + ltop s + 1) → t ≡ perform s (jumps next) → u ≡ enter t called.nlocals (frame_word selector number) → did (Ok Entered) u ≡ carry s (call (seen s) next called selector number arguments)
      unfolding call
      call_enters fits jumped entered = simp (count-seen s, room-seen s, le-ltb _ _ some, eq-eqb _ _ same, le-ltb _ _ fits, jumped, entered)

-- the room is the same after PCTR was set
pub room-kept : (s : List ℕ) {t : List ℕ} (next n : ℕ) → t ≡ perform s (jumps next) → n + 2 ≤ length s - (sbase s + ltop s + 1) → length s ≤ 16384 → (sbase t + ltop t + n + 2 < length t) × (length t ≤ 16384)
unfolding set_pctr
room-kept s {t} next n jumped fits short =
    let first : get_or t 0 0 ≡ get_or s 0 0 = ap (λ (l : List ℕ). get_or l 0 0) jumped ∙ get_or-set_other s (sbase s + lbase s + 1) 0 _ 0 (omega arith) in
    let long : length t ≡ length s = ap length jumped ∙ length-set s (sbase s + lbase s + 1) _ in
    (omega arith, omega arith)

-- CALL of a function that its directory has, and of one that it has not
plan-found : (has : Bool) (there block : Block) (plan : Header → Plan) → cond has (Some there) None ≡ Some block → plan block.header ≡ stop_if (not has) 3 1 (plan there.header)
plan-found true there block plan found = let same : block ≡ there = cc in ap (λ (b : Block). plan b.header) same
plan-found false there block plan found = let z : ◌≡◌ {A = ℕ} 0 1 = cc in absurd (omega arith)

plan-absent : (has : Bool) (there : Block) (plan : Plan) → cond has (Some there) None ≡ None → trap 3 1 ≡ stop_if (not has) 3 1 plan
plan-absent true there plan absent = let z : ◌≡◌ {A = ℕ} 0 1 = cc in absurd (omega arith)
plan-absent false there plan absent = refl

module _ (regular alternate : List ℕ) (seen : Seen) (next arguments : ℕ) (selector : Bool) (number : ℕ) where
  abbrev p : List ℕ
  p = selected selector regular alternate

  pub call-found : (block : Block) → function_of p number ≡ Some block → call seen next block.header selector number arguments ≡ call_in regular alternate seen next arguments selector number
  unfolding function_of
  call-found block found = plan-found (has_function p number) (block_at p (start_of p number)) block (λ h. call seen next h selector number arguments) found

  pub call-absent : function_of p number ≡ None → trap 3 1 ≡ call_in regular alternate seen next arguments selector number
  unfolding function_of
  call-absent absent = plan-absent (has_function p number) (block_at p (start_of p number)) _ absent
