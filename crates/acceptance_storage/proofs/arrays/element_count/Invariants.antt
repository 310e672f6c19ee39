use Rattle.acceptance_storage.proofs.Insides.{Counting}
use Rattle.acceptance_storage.proofs.arrays.element_count.Given as goal

abbrev pub invariant-loop-length : goal.invariant-loop-length
invariant-loop-length l = Counting l.shape l.length-index l.count
