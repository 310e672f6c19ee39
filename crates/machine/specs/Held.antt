-- The function that the code runs, as the manual's definitions take it. Assumes nothing.
use Rattle.manual.specs.Instructions.{running, Running as Function}
use Rattle.machine.specs.declared.running.Running.{Running}
use Rattle.machine.specs.Lent.{program_of}

abbrev pub running_of : Running → Function
running_of f = running (program_of f.program.now) f.selector f.block
