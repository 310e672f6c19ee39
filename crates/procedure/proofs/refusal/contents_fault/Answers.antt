use Rattle.procedure.proofs.Faults.{at-fault, past-sound, none_left}
use Rattle.procedure.specs.Faults.{contents_fault}
use Rattle.std.proofs.Common.{sym, ◌∙◌, arith}
use Rattle.procedure.proofs.refusal.contents_fault.Goals as goal

pub returns-in_err-function_fault : goal.returns-in_err-function_fault
unfolding contents_fault
returns-in_err-function_fault c =
    let stands = at-fault _ _ _ c.loop-k-test.true (sym c.function_fault.ensures ∙ c.in_err-function_fault.was) in
    grind (arith, stands, c.loop-k.invariant)

pub loop-k-preserved : goal.loop-k-preserved
loop-k-preserved c = sym (past-sound _ _ _ c.loop-k-test.true (sym c.function_fault.ensures ∙ c.in_ok-function_fault.was)) ∙ c.loop-k.invariant

pub returns : goal.returns
unfolding contents_fault
returns c = simp (← c.entries_pass.ensures, c.if-not-entries_pass.false, ← c.entries-k-end.ensures) (sym (none_left _ _ _ c.loop-k-test.false) ∙ c.loop-k.invariant)
