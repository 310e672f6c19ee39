use Rattle.std.proofs.Common.{◌≡◌}
use Rattle.storage.specs.Arrays.{drop_words}
use Rattle.storage.proofs.arrays.drop_words.Given as goal

abbrev pub invariant-loop-i : goal.invariant-loop-i
invariant-loop-i l = drop_words l.i l.seg l.start ≡ drop_words l.n l.initial.seg l.start
