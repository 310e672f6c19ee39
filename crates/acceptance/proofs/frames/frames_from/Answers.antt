use mathlib.Core.Path.{sym, ◌∙◌}
use native.Mathlib.Omega.{arith}
use Rattle.acceptance.proofs.Chain.{chain-start, frames-none, absent, bottom, low, further}
use Rattle.acceptance.proofs.frames.frames_from.Goals as goal

pub frames-init : goal.frames-init
frames-init c = (omega arith, chain-start _ _ _ _ (omega arith))

pub returns-then-not-in_its_directory : goal.returns-then-not-in_its_directory
returns-then-not-in_its_directory c = sym (c.frames.invariant.1
    ∙ absent _ _ _ _ _ (omega arith)
    (rw c.of.ensures at c.frame_at-frame.ensures)
    (sym c.in_its_directory.ensures ∙ c.if-not-in_its_directory.true))

pub returns-then-last-base : goal.returns-then-last-base
returns-then-last-base c = sym (c.frames.invariant.1
    ∙ bottom _ _ _ _ _ (omega arith) (rw c.of.ensures at c.frame_at-frame.ensures)
    (sym c.in_its_directory.ensures ∙ c.if-not-in_its_directory.false)
    (sym c.number-last.ensures ∙ c.if-last-base.true))

pub returns-then-base-last : goal.returns-then-base-last
returns-then-base-last c = sym (c.frames.invariant.1
    ∙ low _ _ _ _ _ (omega arith) (rw c.of.ensures at c.frame_at-frame.ensures)
    (sym c.in_its_directory.ensures ∙ c.if-not-in_its_directory.false)
    (λ z. c.if-last-base.false (c.number-last.ensures ∙ z)) (omega arith))

pub frames-preserved : goal.frames-preserved
frames-preserved c = (
  omega arith,
  c.frames.invariant.1
      ∙ rw c.number-last.ensures
      (further _ _ _ _ _ (omega arith)
      (rw c.of.ensures at c.frame_at-frame.ensures)
      (sym c.in_its_directory.ensures ∙ c.if-not-in_its_directory.false)
      (λ z. c.if-last-base.false (c.number-last.ensures ∙ z)) (omega arith) (omega arith)),
)

pub returns : goal.returns
returns c = sym (c.frames.invariant.1 ∙ frames-none _ _ _ _ _ (omega arith))
