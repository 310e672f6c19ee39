use Rattle.acceptance.specs.Cells.{in_table}
use Rattle.acceptance.proofs.Meeting.{meeting-start, meeting-room, meeting-bad, meeting-on, meeting-done, free-alike}
use Rattle.acceptance.proofs.FrameCells.{never}
use Rattle.acceptance.proofs.cells.free_cells.Goals as goal

pub loop-w-init : goal.loop-w-init
loop-w-init c = meeting-start _ _ _

pub is_proper-requires : goal.is_proper-requires
is_proper-requires c = meeting-room c.loop-w.invariant c.loop-w-test.true
    c.requires

pub returns-then-not-is_proper : goal.returns-then-not-is_proper
returns-then-not-is_proper c = record {
  value = meeting-bad c.loop-w.invariant
      c.loop-w-test.true (free-alike c.args.seg.now (in_table c.args.variables.now))
      c.is_proper.ensures.value c.if-not-is_proper.true;
  met = never;
  x_bound = never;
}

pub loop-w-preserved : goal.loop-w-preserved
loop-w-preserved c = meeting-on c.loop-w.invariant
    c.loop-w-test.true (free-alike c.args.seg.now (in_table c.args.variables.now))
    c.is_proper.ensures.value c.if-not-is_proper.false c.is_proper.ensures.arrays_after

pub returns : goal.returns
returns c = let answer = meeting-done c.loop-w.invariant c.loop-w-test.false in record { value = answer.0; met = answer.1.0; x_bound = answer.1.1 }
