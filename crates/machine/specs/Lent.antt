-- What the code is lent, as the manual's definitions take it. Assumes nothing.
use Rattle.manual.specs.Program.{program, Program as Lent}
use Rattle.machine.specs.declared.program.Program.{Program}

abbrev pub program_of : Program → Lent
program_of p = program p.regular.now p.alternate.now p.table.now
