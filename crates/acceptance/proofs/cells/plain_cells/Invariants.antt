use Rattle.acceptance.specs.Cells.{direct}
use Rattle.acceptance.proofs.Meeting.{Meeting}
use Rattle.acceptance.proofs.cells.plain_cells.Given as goal

abbrev pub invariant-loop-w : goal.invariant-loop-w
invariant-loop-w l = Meeting direct l.initial.arrays l.arrays l.cells l.w-index
