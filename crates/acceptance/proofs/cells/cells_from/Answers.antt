use native.Mathlib.Omega.{arith}
use mathlib.Core.Path.{sym}
use Rattle.acceptance.proofs.FrameCells.{never}
use Rattle.acceptance.proofs.Descent.{descent-start, descent-none, descent-low, descent-frame, descent-fails, descent-bottom, descent-on}
use Rattle.acceptance.proofs.cells.cells_from.Goals as goal

pub frames-init : goal.frames-init
frames-init c = descent-start c.requires (omega arith)

pub overflow_sub-start : goal.overflow_sub-start
overflow_sub-start c = descent-low c.requires
    c.frames.invariant (omega arith) c.of.ensures
    c.frame_at-frame.ensures

pub frame_cells-requires : goal.frame_cells-requires
frame_cells-requires c = descent-frame c.requires c.frames.invariant
    (omega arith) c.of.ensures c.frame_at-frame.ensures

pub returns-then-not-frame_cells : goal.returns-then-not-frame_cells
returns-then-not-frame_cells c = let fails = descent-fails c.requires
    c.frames.invariant (omega arith) c.of.ensures c.frame_at-frame.ensures
    (c.frame_cells.ensures.value, (c.frame_cells.ensures.gains, (c.frame_cells.ensures.met, c.frame_cells.ensures.can_rise))) c.if-not-frame_cells.true in record { value = sym fails; met = never }

pub returns-then-base-last : goal.returns-then-base-last
returns-then-base-last c = let answer = descent-bottom c.requires
    c.frames.invariant (omega arith) c.of.ensures
    c.frame_at-frame.ensures
    (c.frame_cells.ensures.value, (c.frame_cells.ensures.gains, (c.frame_cells.ensures.met, c.frame_cells.ensures.can_rise))) c.if-not-frame_cells.false c.number-last.ensures c.if-base-last.true in record { value = answer.0; met = answer.1 }

pub frames-preserved : goal.frames-preserved
frames-preserved c = descent-on c.requires
    c.frames.invariant (omega arith) c.of.ensures
    c.frame_at-frame.ensures
    (c.frame_cells.ensures.value, (c.frame_cells.ensures.gains, (c.frame_cells.ensures.met, c.frame_cells.ensures.can_rise))) c.if-not-frame_cells.false c.number-last.ensures c.if-base-last.false (omega arith)

pub returns : goal.returns
returns c = record { value = sym (descent-none c.requires c.frames.invariant (omega arith)); met = never }
