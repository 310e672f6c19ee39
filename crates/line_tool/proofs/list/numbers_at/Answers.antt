use Prim.Native.Nat.{◌-◌, ◌+◌}
use native.Mathlib.Omega.{arith}
use mathlib.Core.Path.{◌≡◌, sym, ◌∙◌}
use borrow.Author.Tests.{le-leb, lt-leb}
use lib.ListN.{length-set}
use Rattle.line_tool.proofs.Listing.{list-end, list-most, list-wrong, list_full, list_on}
use Rattle.line_tool.proofs.list.numbers_at.Goals as goal

pub returns-then-is_empty : goal.returns-then-is_empty
returns-then-is_empty c = list-end c.loop.invariant.1 (omega arith) c.token_at-token.ensures (sym c.is_empty.ensures ∙ c.if-is_empty.true)

pub returns-in-Err : goal.returns-in-Err
returns-in-Err c = list-wrong c.loop.invariant.1 (omega arith) c.token_at-token.ensures (sym c.is_empty.ensures ∙ c.if-is_empty.false) (cc)

pub returns-then-out-count : goal.returns-then-out-count
returns-then-out-count c = list_full c.loop.invariant.1 (omega arith) c.token_at-token.ensures {v = c.in-Ok.value} (sym c.is_empty.ensures ∙ c.if-is_empty.false) (cc) (le-leb _ _ c.if-out-count.true)

pub loop-preserved : goal.loop-preserved
loop-preserved c =
    let one_less : c.args.most - c.loop.counter - 1 ≡ c.args.most - (c.loop.counter + 1) = omega arith in (
      simp length-set c.loop.invariant.0,
      rw one_less at (list_on c.loop.invariant.1 (omega arith) c.token_at-token.ensures {v = c.in-Ok.value} (sym c.is_empty.ensures ∙ c.if-is_empty.false) (cc) (lt-leb _ _ c.if-out-count.false)),
    )

pub returns : goal.returns
returns c = list-most c.loop.invariant.1 (omega arith)
