use mathlib.Core.Path.{sym, ◌∙◌}
use Rattle.acceptance.proofs.FrameCells.{never}
use Rattle.acceptance.proofs.Descent.{globals-room, globals-wrong, base-low, before-stack, all-cells}
use Rattle.acceptance.proofs.cells.cells_test.Goals as goal

pub plain_cells-requires : goal.plain_cells-requires
plain_cells-requires c = globals-room c.requires
    (c.index-end.ensures ∙ c.blockptr.ensures)

pub returns-then-not-plain_cells : goal.returns-then-not-plain_cells
returns-then-not-plain_cells c = record {
  value = sym (globals-wrong c.requires (c.index-end.ensures ∙ c.blockptr.ensures)
      (c.plain_cells.ensures.value, (c.plain_cells.ensures.met, c.plain_cells.ensures.x_bound)) c.if-not-plain_cells.true);
  met = never;
}

pub mark_variables-requires : goal.mark_variables-requires
mark_variables-requires c = base-low c.requires (c.index-end.ensures ∙ c.blockptr.ensures)
    (c.plain_cells.ensures.value, (c.plain_cells.ensures.met, c.plain_cells.ensures.x_bound)) c.if-not-plain_cells.false c.lbase-base.ensures

pub cells_from-requires : goal.cells_from-requires
cells_from-requires c = before-stack c.requires
    (c.index-end.ensures
    ∙ c.blockptr.ensures)
    (c.plain_cells.ensures.value, (c.plain_cells.ensures.met, c.plain_cells.ensures.x_bound)) c.if-not-plain_cells.false c.lbase-base.ensures
    c.number.ensures (c.number-top.ensures ∙ c.ltop.ensures)
    c.mark_variables.ensures

pub returns : goal.returns
returns c = let answer = all-cells c.requires
    (c.index-end.ensures
    ∙ c.blockptr.ensures)
    (c.plain_cells.ensures.value, (c.plain_cells.ensures.met, c.plain_cells.ensures.x_bound)) c.if-not-plain_cells.false c.lbase-base.ensures
    c.number.ensures
    (c.number-top.ensures
    ∙ c.ltop.ensures) (c.cells_from.ensures.value, c.cells_from.ensures.met) in record { value = answer.0; met = answer.1 }
