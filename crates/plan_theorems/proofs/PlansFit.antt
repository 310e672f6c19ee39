-- The theorem of specs/Fitting: every shape of plan fits.
use Prim.Native.Nat.{ℕ, ◌+◌, ◌%◌, ◌^◌, ◌≤◌}
use mathlib.Core.Path.{◌≡◌, refl, sym, ◌∙◌}
use mathlib.Core.Bool.{true}
use mathlib.Core.List.{List}
use native.Mathlib.Omega.{arith}
use Rattle.descriptor.specs.Kinds.{bit}
use Rattle.instruction.specs.declared.Instruction.{Instruction}
use Rattle.manual.specs.Effects.{operand, word, replaces, discards, swaps, stores, stores_element, enters, leaves, jumps, sets_origin}
use Rattle.manual.specs.Seen.{Seen, variables_of}
use Rattle.manual.specs.Scalars.{result_source, cell_word}
use Rattle.manual.specs.Control.{frame_word}
use Rattle.manual.specs.Instructions.{Running, header_of, plan_of}
use Rattle.manual.specs.Cases.{called_by}
use Rattle.manual.proofs.Cases.{plan-cases}
use Rattle.effects.specs.Seen.{temporaries, seen}
use Rattle.effects.specs.Sound.{Sound}
use Rattle.effects.specs.Fits.{Fits}
use Rattle.plan_theorems.specs.Fitting.{Fitting, PlansFit}
use Rattle.plan_theorems.proofs.Given.{AnyTrap, Given, given}
use Rattle.plan_theorems.proofs.Values.{valid-length, value-available}
use Rattle.plan_theorems.proofs.Cells.{word-valid}
use Rattle.plan_theorems.proofs.Places.{has-element}
use Rattle.plan_theorems.proofs.Sees.{Sees, sees, resolved}
use Rattle.plan_theorems.proofs.Fitting.{only, and_then, then-jumps, and-then-jumps, can-replace, can-leave}
use Rattle.plan_theorems.proofs.After.{enters-after, replace-after, discards-after, leaves_after}
use Rattle.plan_theorems.proofs.Pushed.{source-available}
use Rattle.plan_theorems.proofs.Results.{result_fits}

module _ (s : List ℕ) (g : Sound s) (f : Running) (v : Seen) (h : Sees s (variables_of (header_of f)) v)
    (some : (header_of f).result ≡ true → 1 ≤ variables_of (header_of f)) (i : Instruction) (next : ℕ) where
  abbrev vars : ℕ
  vars = variables_of (header_of f)

  -- operands that are not missing can be taken
  there : (n : ℕ) → n ≤ v.count → n ≤ temporaries s
  there n c = omega (arith, c, h.count)

  plan-fits : Given (Fitting s) (plan_of f v i next)
  plan-fits =
      plan-cases f v i next (Fitting s) AnyTrap
      (record {
        unresolved = λ a class number e. tt;
        stopped = λ class number e. tt;
        pushed = λ {source} p r.
            then-jumps s (replaces 0 source) (record { taken = omega arith; room = omega (arith, r, h.room) }, source-available g h p) next;
        result = λ {n} {v = r} p m c. then-jumps s (replaces n (result_source r)) (can-replace s g n (there n c) m, value-available s r (result_fits h p)) next;
        origin = λ a b e c p t.
            and-then-jumps s (sets_origin (bit b)) tt (replaces 1 (word v.origin)) (λ t. refl)
            (replace-after s (bit b) 1 (can-replace s g 1 (there 1 c) (omega arith)), (valid-length v.origin (omega (arith, h.origin))).scalar) next;
        assigned = λ a x w e r c p. then-jumps s (stores x.place (operand 0)) ((resolved f h a r).there, there 1 c) next;
        assigned_no_result = λ a x w e r c p.
            let k : Fits s (stores x.place (operand 0)) = ((resolved f h a r).there, there 1 c) in
            and-then-jumps s (stores x.place (operand 0)) k (discards 1) (λ t. refl) (discards-after s g x.place k) next;
        assigned_element = λ rank a x k e c p.
            then-jumps s (stores_element x.place k (cell_word (v.operand (rank % 2 ^ 4))) (rank % 2 ^ 4 + 1)) (
              can-replace s g (rank % 2 ^ 4 + 1) (there (rank % 2 ^ 4 + 1) c) (omega arith),
              has-element (resolved f h a p.reaches) p,
              (word-valid (v.operand (rank % 2 ^ 4)) (h.operand (rank % 2 ^ 4))).scalar,
            ) next;
        interchanged = λ e c. then-jumps s swaps (there 2 c) next;
        gone = λ {place} p. only s (jumps place) tt;
        dropped = λ {place} c p. then-jumps s (discards 1) (there 1 c) place;
        left = λ l.
            only s (leaves vars (header_of f).result)
            (can-leave s g vars (sym h.bottom ∙ l.below) h.cells (omega (arith, l.none, h.count)) (header_of f).result some);
        left_dropping = λ c l.
            and_then s (discards 1) (there 1 c) (leaves vars (header_of f).result) (λ t. refl)
            (leaves_after s g vars (sym h.bottom ∙ l.below) h.cells (omega (arith, l.none, c, h.count)) (header_of f).result some);
        entered = λ arguments alternate number e c.
            let n = (called_by f alternate number).nlocals in
            and_then s (jumps next) tt (enters n (frame_word alternate (number % 2 ^ 11))) (λ t. refl)
            (enters-after s g next n (frame_word alternate (number % 2 ^ 11)) (omega (arith, c.room, h.room)));
      })

pub plans-fit : PlansFit
plans-fit = record {
  fitting = λ s g short f runs i next es e.
      given (Fitting s) (plan_of f (seen s) i next) es
      (plan-fits s g f (seen s) (sees s g short (variables_of (header_of f)) (header_of f).result runs) runs.some i next) e;
}
