use Prim.Native.Nat.{ℕ, ◌-◌}
use mathlib.Core.Path.{◌∙◌, ap}
use native.Mathlib.Omega.{arith}
use borrow.Author.Rules.{rules}
use Rattle.acceptance.proofs.VariableMarks.{marked_start, marked-none, marked-bottom, marked-on}
use Rattle.acceptance.proofs.variables.mark_variables.Goals as goal

pub frames-init : goal.frames-init
frames-init c = (omega arith, marked_start _ _ _ _ (omega arith) (omega arith) c.requires.2 (omega arith))

pub mark-requires : goal.mark-requires
mark-requires c = (omega (arith, c.frames.invariant.1.low), λ x. omega (arith, c.frames.invariant.1.room x))

pub shape_of-marks-then-base-last : goal.shape_of-marks-then-base-last
shape_of-marks-then-base-last c = omega (arith, c.frames.invariant.1.long)

pub returns-then-base-last : goal.returns-then-base-last
returns-then-base-last c = rw (← c.number-base.ensures)
    (marked-bottom c.frames.invariant.1 (omega arith)
    (c.saturating_sub-start.ensures
    ∙ ap (λ (v : ℕ). c.frames.base - v) (rw c.of.ensures at c.frame_at-frame.ensures).variables)
    (c.number-last.ensures ∙ (rw c.of.ensures at c.frame_at-frame.ensures).last)
    c.mark.ensures c.if-base-last.true)

pub frames-preserved : goal.frames-preserved
frames-preserved c = (
  omega arith,
  marked-on c.frames.invariant.1 (omega arith)
      (c.saturating_sub-start.ensures
      ∙ ap (λ (v : ℕ). c.frames.base - v) (rw c.of.ensures at c.frame_at-frame.ensures).variables)
      (c.number-last.ensures ∙ (rw c.of.ensures at c.frame_at-frame.ensures).last)
      c.mark.ensures c.if-base-last.false (search rules) (omega arith),
)

pub shape_of-marks : goal.shape_of-marks
shape_of-marks c = c.frames.invariant.1.long

pub returns : goal.returns
returns c = rw (← c.number-base.ensures) (marked-none c.frames.invariant.1 (omega arith))
