use Rattle.acceptance.proofs.Meeting.{meeting-start, meeting-room, meeting-bad, meeting-on, meeting-done, direct-alike}
use Rattle.acceptance.proofs.FrameCells.{never}
use Rattle.acceptance.proofs.cells.plain_cells.Goals as goal

pub loop-w-init : goal.loop-w-init
loop-w-init c = meeting-start _ _ _

pub is_direct-requires : goal.is_direct-requires
is_direct-requires c = meeting-room c.loop-w.invariant c.loop-w-test.true c.requires

pub returns-then-not-is_direct : goal.returns-then-not-is_direct
returns-then-not-is_direct c = record {
  value = meeting-bad c.loop-w.invariant c.loop-w-test.true direct-alike c.is_direct.ensures.value
      c.if-not-is_direct.true;
  met = never;
  x_bound = never;
}

pub loop-w-preserved : goal.loop-w-preserved
loop-w-preserved c = meeting-on c.loop-w.invariant
    c.loop-w-test.true direct-alike c.is_direct.ensures.value
    c.if-not-is_direct.false c.is_direct.ensures.arrays_after

pub returns : goal.returns
returns c = let answer = meeting-done c.loop-w.invariant c.loop-w-test.false in record { value = answer.0; met = answer.1.0; x_bound = answer.1.1 }
