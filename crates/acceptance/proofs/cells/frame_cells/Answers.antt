use mathlib.Core.Path.{◌∙◌}
use Rattle.acceptance.proofs.FrameCells.{never, temporaries-room, temporaries-fail, arguments-room, arguments-fail, locals-room, frame-done}
use Rattle.acceptance.proofs.cells.frame_cells.Goals as goal

pub free_cells-requires : goal.free_cells-requires
free_cells-requires c = temporaries-room c.requires
    (c.index-stack.ensures ∙ c.sbase.ensures)

pub returns-then-not-free_cells : goal.returns-then-not-free_cells
returns-then-not-free_cells c = record {
  value = temporaries-fail c.requires (c.index-stack.ensures ∙ c.sbase.ensures) (c.free_cells.ensures.value, (c.free_cells.ensures.met, c.free_cells.ensures.x_bound)) c.if-not-free_cells.true;
  gains = never;
  met = never;
  can_rise = never;
}

pub unmark-requires : goal.unmark-requires
unmark-requires c = rw (c.of.ensures, c.of-2.ensures)
    c.requires.variables

pub free_cells-requires-2 : goal.free_cells-requires-2
free_cells-requires-2 c = arguments-room c.requires
    (c.index-stack.ensures ∙ c.sbase.ensures) (c.free_cells.ensures.value, (c.free_cells.ensures.met, c.free_cells.ensures.x_bound))
    c.if-not-free_cells.false

pub returns-then-not-free_cells-2 : goal.returns-then-not-free_cells-2
returns-then-not-free_cells-2 c = let fails = arguments-fail c.requires
    (c.index-stack.ensures
    ∙ c.sbase.ensures)
    (c.free_cells.ensures.value, (c.free_cells.ensures.met, c.free_cells.ensures.x_bound)) c.if-not-free_cells.false
    c.of.ensures c.of-2.ensures c.unmark.ensures (c.free_cells-2.ensures.value, (c.free_cells-2.ensures.met, c.free_cells-2.ensures.x_bound))
    c.if-not-free_cells-2.true in record { value = fails; gains = never; met = never; can_rise = never }

pub plain_cells-requires : goal.plain_cells-requires
plain_cells-requires c = locals-room c.requires
    (c.index-stack.ensures
    ∙ c.sbase.ensures)
    (c.free_cells.ensures.value, (c.free_cells.ensures.met, c.free_cells.ensures.x_bound)) c.if-not-free_cells.false
    c.of.ensures c.of-2.ensures c.unmark.ensures
    (c.free_cells-2.ensures.value, (c.free_cells-2.ensures.met, c.free_cells-2.ensures.x_bound)) c.if-not-free_cells-2.false

pub returns : goal.returns
returns c = let answer = frame-done c.requires
    (c.index-stack.ensures
    ∙ c.sbase.ensures)
    (c.free_cells.ensures.value, (c.free_cells.ensures.met, c.free_cells.ensures.x_bound)) c.if-not-free_cells.false
    c.of.ensures c.of-2.ensures c.unmark.ensures
    (c.free_cells-2.ensures.value, (c.free_cells-2.ensures.met, c.free_cells-2.ensures.x_bound))
    c.if-not-free_cells-2.false (c.plain_cells.ensures.value, (c.plain_cells.ensures.met, c.plain_cells.ensures.x_bound)) in record { value = answer.0; gains = answer.1.0; met = answer.1.1.0; can_rise = answer.1.1.1 }
