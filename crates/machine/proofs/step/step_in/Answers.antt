use mathlib.Core.Path.{refl, ◌∙◌}
use Rattle.machine.specs.Held.{running_of}
use Rattle.machine.proofs.Dispatching.{obeyed}
use Rattle.machine.proofs.Stepping.{step-done, step_kept}
use Rattle.machine.proofs.step.step_in.Goals as goal

pub returns-then-try_fast : goal.returns-then-try_fast
returns-then-try_fast c = let a = c.args in let q = c.requires in let f = running_of a.f.now in c.step_trap.ensures ∙ step-done a.seg.now f q.place_value (obeyed _ f _ a.f.now.lent refl refl ((c.try_fast.ensures f (refl, refl)).done c.if-try_fast.true))

pub returns : goal.returns
returns c = let a = c.args in
    let q = c.requires in
    let p = c.try_fast in
    let f = running_of a.f.now in
    c.long_step.ensures ∙ step_kept a.seg.now f q.place_value p.new.seg ((p.ensures f (refl, refl)).kept c.if-try_fast.false)
