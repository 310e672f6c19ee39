use borrow.Author.Rules.{rules}
use Rattle.segment.proofs.blocks.last_at.Goals as goal

pub returns : goal.returns
returns c = record { result_value = (cc); result_bound = search rules }
