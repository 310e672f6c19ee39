use borrow.Author.Rules.{rules}
use Prim.Native.Nat.{◌-◌}
use native.Mathlib.Omega.{arith}
use mathlib.Core.Path.{◌≡◌, refl, ◌∙◌}
use Rattle.machine.specs.Lent.{program_of}
use Rattle.machine.proofs.Budget.{goes_on, stops, advances, run_ends}
use Rattle.machine.proofs.run.steps_up_to.Goals as goal

pub loop-done-init : goal.loop-done-init
loop-done-init c = let all = c.args.budget in let none : all - 0 ≡ all = omega arith in (search rules, refl, refl, refl, rw none)

pub returns-in-Trapped : goal.returns-in-Trapped
returns-in-Trapped c = let a = c.args in let p = c.run_current in let l = c.loop-done in stops (program_of a.program.now) a.budget _ _ p.new.seg c.in-Trapped.is p.ensures.0 ∙ l.invariant.4

pub loop-done-smaller : goal.loop-done-smaller
loop-done-smaller c = let p = c.run_current in omega (arith, advances _ _ _ c.in-Done.is p.ensures.1)

pub loop-done-preserved : goal.loop-done-preserved
loop-done-preserved c = let a = c.args in let p = c.run_current in let l = c.loop-done in let on = advances l.done a.budget _ c.in-Done.is p.ensures.1 in (on.1, p.auto.seg ∙ l.invariant.1, search rules, search rules, goes_on (program_of a.program.now) a.budget _ _ p.new.seg c.in-Done.is p.ensures.0 ∙ l.invariant.4)

pub returns : goal.returns
returns c = run_ends _ _ _ _ _ c.loop-done-test.false ∙ c.loop-done.invariant.4
