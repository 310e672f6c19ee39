use native.Mathlib.Omega.{arith}
use lib.ListN.{length}
use Rattle.descriptor.proofs.Truth.{by_le}
use Rattle.line_tool.proofs.Putting.{put_all, put_full, pairs-none}
use Rattle.line_tool.proofs.bytes.put_bytes.Goals as goal

pub returns : goal.returns
returns c =
    let put = c.loop-i.invariant in
    by_le (length c.loop-i.out) c.loop-i.i
    (λ full. put_full put full)
    (λ room. put_all put (pairs-none c.args.word.now (omega (arith, put.as_long))))
