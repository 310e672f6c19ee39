use Rattle.machine.specs.Lent.{program_of}
use Rattle.machine.proofs.Budget.{run-absent}
use Rattle.machine.proofs.Stepping.{step-absent}
use borrow.Author.Rules.{rules}
use Rattle.machine.proofs.run.run_current.Goals as goal

pub steps_in-requires : goal.steps_in-requires
steps_in-requires c = record { seg_len_bound = search rules; current = record { found = (cc); selects = (cc); numbers = (cc) } }

pub returns-in_default : goal.returns-in_default
returns-in_default c = let a = c.args in let t = c.trap_absent.ensures in run-absent (program_of a.program.now) a.budget a.start a.counts.now a.seg.now c.requires.2 (step-absent a.seg.now (program_of a.program.now) {selector = c.alternate-selector.result} {number = c.function_number-number.result} (cc) (cc) (cc)) t.0 t.1
