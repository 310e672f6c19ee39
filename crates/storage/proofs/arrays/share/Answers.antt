use Rattle.std.proofs.Common.{sym, ◌∙◌}
use Rattle.storage.proofs.Counts.{share-array, share_other}
use Rattle.storage.proofs.arrays.share.Goals as goal

pub returns-then-is_array : goal.returns-then-is_array
returns-then-is_array c = (cc) ∙ sym (share-array _ _ (cc))

pub returns-else-is_array : goal.returns-else-is_array
returns-else-is_array c = sym (share_other _ _ (cc))
