use mathlib.Core.Path.{ap}
use Rattle.machine.specs.Resuming.{Whole}
use Rattle.machine.proofs.run.run.Goals as goal

pub returns : goal.returns
returns c = let e = c.steps_up_to.ensures in record { seg_after = ap (λ (w : Whole). w.result) e; counts_after = ap (λ (w : Whole). w.counts) e }
