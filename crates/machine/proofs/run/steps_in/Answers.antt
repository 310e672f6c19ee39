use borrow.Author.Rules.{rules}
use native.Mathlib.Omega.{arith}
use Rattle.std.specs.Prelude.{Ok}
use mathlib.Core.Path.{refl, ap, ◌∙◌}
use Rattle.machine.specs.Lent.{program_of}
use Rattle.segment.specs.State.{lbase}
use Rattle.segment.specs.Stack.{code_word_at}
use Rattle.machine.proofs.Budget.{later, begun, within, left-later, run-goes, run-traced, run-trapped}
use Rattle.machine.proofs.Stepping.{bit-small, number_small, function-in, stands, step-here, first-here}
use Rattle.machine.proofs.run.steps_in.Goals as goal

pub overflow_mul-function : goal.overflow_mul-function
overflow_mul-function c = omega (arith, bit-small c.args.f.now.selector)

pub overflow_add-function : goal.overflow_add-function
overflow_add-function c = let a = c.args in omega (arith, bit-small a.f.now.selector, number_small a.seg.now c.requires.current.numbers)

pub loop-steps-init : goal.loop-steps-init
loop-steps-init c = let a = c.args in let q = c.requires in (omega arith, omega arith, refl, refl, (λ e. function-in (code_word_at a.seg.now (lbase a.seg.now)) a.f.now.number a.f.now.selector q.current.selects q.current.numbers), refl, refl)

pub returns-then-here-function : goal.returns-then-here-function
returns-then-here-function c = let l = c.loop-steps in (l.invariant.6, (left-later l.invariant.0 l.invariant.4 c.here.ensures c.if-here-function.true, l.invariant.1))

pub step_in-requires : goal.step_in-requires
step_in-requires c = record { seg_len_bound = search rules; place_value = (cc) }

pub count_step-requires : goal.count_step-requires
count_step-requires c = let q = c.requires in let p = c.step_in in stands c.loop-steps.seg _ (cc) c.args.f.now.lent p.ensures c.in-Ok.is

pub overflow_add-steps : goal.overflow_add-steps
overflow_add-steps c = let fits = c.ranges.budget in search rules

pub loop-steps-preserved : goal.loop-steps-preserved
loop-steps-preserved c = let a = c.args in let f = a.f.now in let q = c.requires in let l = c.loop-steps in let p = c.step_in in let more = c.loop-steps-test.true in let small = number_small a.seg.now q.current.numbers in let held = c.here.ensures in let same = c.if-here-function.false in let is = p.ensures ∙ step-here l.seg (program_of f.program.now) f.selector f.block small q.current.found held same in let first = first-here l.seg (program_of f.program.now) f.selector f.block small q.current.found held same c.args.f.now.lent (cc) in let u = c.count_step in (later l.invariant.0, within more, p.auto.seg ∙ l.invariant.2, search rules, (λ e. begun l.invariant.0 e), u.auto.counts ∙ l.invariant.5, run-goes _ _ _ _ _ p.result p.new.seg more is first u.ensures (c.in-Ok.is ∙ ap Ok c.in_default-stepped.is) ∙ l.invariant.6)

pub returns-in-Traced : goal.returns-in-Traced
returns-in-Traced c = let a = c.args in let f = a.f.now in let q = c.requires in let l = c.loop-steps in let p = c.step_in in let more = c.loop-steps-test.true in let small = number_small a.seg.now q.current.numbers in let held = c.here.ensures in let same = c.if-here-function.false in let is = p.ensures ∙ step-here l.seg (program_of f.program.now) f.selector f.block small q.current.found held same in let first = first-here l.seg (program_of f.program.now) f.selector f.block small q.current.found held same c.args.f.now.lent (cc) in let u = c.count_step in (run-traced _ _ _ _ _ p.result p.new.seg more is first u.ensures _ (c.in-Ok.is ∙ ap Ok c.in-Traced.is) ∙ l.invariant.6, search rules)

pub returns-in_default : goal.returns-in_default
returns-in_default c = let a = c.args in let f = a.f.now in let q = c.requires in let l = c.loop-steps in let p = c.step_in in let more = c.loop-steps-test.true in let small = number_small a.seg.now q.current.numbers in let held = c.here.ensures in let same = c.if-here-function.false in let is = p.ensures ∙ step-here l.seg (program_of f.program.now) f.selector f.block small q.current.found held same in (run-trapped _ _ _ _ _ p.result p.new.seg more is _ c.in_default.is ∙ l.invariant.6, search rules)

pub returns : goal.returns
returns c = let l = c.loop-steps in (l.invariant.6, (omega arith, l.invariant.1))
