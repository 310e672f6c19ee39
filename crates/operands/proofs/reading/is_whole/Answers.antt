use native.Mathlib.Omega.{arith}
use mathlib.Core.Path.{◌≡◌, sym, ◌∙◌}
use Rattle.segment.specs.Blocks.{size_at}
use Rattle.operands.proofs.Whole.{unranked, outside, too_short, whole-product}
use Rattle.operands.proofs.reading.is_whole.Goals as goal

pub returns-then-rank-lt1 : goal.returns-then-rank-lt1
returns-then-rank-lt1 c = sym (unranked _ _ (omega arith))

pub returns-then-seg-index : goal.returns-then-seg-index
returns-then-seg-index c = let a = c.args in
    let size : c.size_at-size.result ≡ size_at a.seg.now a.block.0 = cc in
    sym (outside _ _ (omega arith))

pub returns-then-size-rank : goal.returns-then-size-rank
returns-then-size-rank c = let a = c.args in
    let size : c.size_at-size.result ≡ size_at a.seg.now a.block.0 = cc in
    sym (too_short _ _ (omega arith))

pub returns : goal.returns
returns c = let a = c.args in
    let size : c.size_at-size.result ≡ size_at a.seg.now a.block.0 = cc in
    (cc) ∙ whole-product _ _ (omega arith) (omega arith) (omega arith)
