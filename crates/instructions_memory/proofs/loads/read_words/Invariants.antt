use lib.ListN.{length}
use Rattle.manual.specs.Instructions.{words_from}
use Rattle.elements.proofs.Filling.{Filled}
use Rattle.instructions_memory.proofs.loads.read_words.Given as goal

abbrev pub invariant-loop-i : goal.invariant-loop-i
invariant-loop-i l = Filled (words_from (length l.initial.out) l.code l.start) l.initial.out l.out l.i
