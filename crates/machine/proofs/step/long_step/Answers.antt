use mathlib.Core.Path.{ap, ◌∙◌}
use Rattle.effects.specs.Step.{settle}
use Rattle.machine.proofs.step.long_step.Goals as goal

pub returns-in-Ok : goal.returns-in-Ok
returns-in-Ok c = let f = c.args.f.now in
    c.settle.ensures ∙ ap (settle f.program.now.regular.now f.program.now.alternate.now f.block.header.rtntrace) c.in-Ok.ensures

pub returns-in-Err : goal.returns-in-Err
returns-in-Err c = let f = c.args.f.now in
    c.trap.ensures ∙ ap (settle f.program.now.regular.now f.program.now.alternate.now f.block.header.rtntrace) c.in-Err.ensures
