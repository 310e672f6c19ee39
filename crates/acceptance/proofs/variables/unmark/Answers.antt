use mathlib.Core.Path.{refl}
use Rattle.acceptance.proofs.Ranges.{unmarking-done, unmarking-room, unmarking-on}
use Rattle.acceptance.proofs.variables.unmark.Goals as goal

pub loop-a-init : goal.loop-a-init
loop-a-init c = record { long = refl; sum = λ x. refl }

pub lower-requires : goal.lower-requires
lower-requires c = unmarking-room c.loop-a.invariant c.loop-a-test.true
    (rw (c.number-a.ensures, c.number-a-end.ensures)
    c.requires)

pub loop-a-preserved : goal.loop-a-preserved
loop-a-preserved c = rw c.lower.ensures
    (unmarking-on c.loop-a.invariant c.loop-a-test.true
    (rw (c.number-a.ensures, c.number-a-end.ensures)
    c.requires))

pub shape_of-marks : goal.shape_of-marks
shape_of-marks c = c.loop-a.invariant.long

pub returns : goal.returns
returns c = rw (← c.number-a.ensures, ← c.number-a-end.ensures) (unmarking-done c.loop-a.invariant c.loop-a-test.false)
