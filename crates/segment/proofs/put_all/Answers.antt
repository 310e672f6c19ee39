use Rattle.std.proofs.Common.{sym}
use Rattle.segment.proofs.Copies.{sets-out, filled-first}
use Rattle.segment.proofs.put_all.Goals as goal

pub returns-then-seg-i : goal.returns-then-seg-i
returns-then-seg-i c = sym (sets-out c.args.words.now _ _ c.if-seg-i.true)

pub returns : goal.returns
returns c = filled-first _ _ _ _ _ c.copy.ensures c.min-n.ensures c.if-seg-i.false
