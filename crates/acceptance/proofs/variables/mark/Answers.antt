use mathlib.Core.Path.{refl}
use native.Mathlib.Omega.{arith}
use Rattle.acceptance.proofs.Ranges.{marking-done, marking-room, marking-on}
use Rattle.acceptance.proofs.variables.mark.Goals as goal

pub loop-a-init : goal.loop-a-init
loop-a-init c = record { long = refl; sum = λ x. refl }

pub raise-requires : goal.raise-requires
raise-requires c = marking-room c.loop-a.invariant c.loop-a-test.true c.requires.1

pub loop-a-preserved : goal.loop-a-preserved
loop-a-preserved c = rw c.raise.ensures
    (marking-on c.loop-a.invariant c.loop-a-test.true
    (omega (
      arith,
      c.loop-a.invariant.long,
      c.requires.0,
    )))

pub shape_of-marks : goal.shape_of-marks
shape_of-marks c = c.loop-a.invariant.long

pub returns : goal.returns
returns c = marking-done c.loop-a.invariant c.loop-a-test.false
