use Rattle.acceptance.specs.Cells.{in_table, free_cell}
use Rattle.acceptance.proofs.Meeting.{Meeting}
use Rattle.acceptance.proofs.cells.free_cells.Given as goal

abbrev pub invariant-loop-w : goal.invariant-loop-w
invariant-loop-w l =
    Meeting (λ table. free_cell l.seg table (in_table l.variables)) l.initial.arrays l.arrays l.cells l.w-index
