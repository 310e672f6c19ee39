use native.Mathlib.Omega.{arith}
use borrow.Author.Rules.{rules}
use Rattle.fresh_segment.proofs.Passed.{word_made}
use Rattle.fresh_segment.specs.LayOut.{layout, fresh}
use Rattle.operation_parts.proofs.fresh.write_fresh.Goals as goal

pub returns : goal.returns
unfolding fresh
returns c = let a = c.args in
    let zeros = c.fill.ensures.after (search rules) in
    (cc (zeros, word_made (layout a.selector a.function a.globals a.storage) (omega arith)))
