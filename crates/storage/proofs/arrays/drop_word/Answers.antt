use Rattle.std.proofs.Common.{sym, ◌∙◌}
use Rattle.storage.proofs.Counts.{drop-array, drop-other}
use Rattle.storage.proofs.arrays.drop_word.Goals as goal

pub returns-then-is_array : goal.returns-then-is_array
returns-then-is_array c = (cc) ∙ sym (drop-array _ _ (cc))

pub returns-else-is_array : goal.returns-else-is_array
returns-else-is_array c = sym (drop-other _ _ (cc))
