use Rattle.storage.proofs.Releases.{released-both, released-before, released-after, released-none}
use Rattle.storage.proofs.release.release.Goals as goal

pub returns-then-free_at : goal.returns-then-free_at
returns-then-free_at c = released-both _ _ c.number-a.ensures c.span_at-n.ensures c.of-after.ensures c.prev_free_at.ensures c.free_at.ensures
    c.saturating_sub.ensures c.of.ensures c.size_at-before.ensures c.saturating_sub-then-prev_free_at.ensures c.of-p.ensures
    c.if-prev_free_at.true c.if-free_at.true c.join_both.ensures

pub returns-else-free_at : goal.returns-else-free_at
returns-else-free_at c = released-before _ _ c.number-a.ensures c.span_at-n.ensures c.of-after.ensures c.prev_free_at.ensures c.free_at.ensures
    c.saturating_sub.ensures c.of.ensures c.size_at-before.ensures c.saturating_sub-then-prev_free_at.ensures c.of-p.ensures
    c.if-prev_free_at.true c.if-free_at.false c.join_before.ensures

pub returns-then-free_at-2 : goal.returns-then-free_at-2
returns-then-free_at-2 c = released-after _ _ c.number-a.ensures c.span_at-n.ensures c.of-after.ensures c.prev_free_at.ensures c.free_at-else-prev_free_at.ensures
    c.if-prev_free_at.false c.if-free_at-2.true c.join_after.ensures

pub returns-else-free_at-2 : goal.returns-else-free_at-2
returns-else-free_at-2 c = released-none _ _ c.number-a.ensures c.span_at-n.ensures c.of-after.ensures c.prev_free_at.ensures c.free_at-else-prev_free_at.ensures
    c.if-prev_free_at.false c.if-free_at-2.false c.join_none.ensures
