use Rattle.std.proofs.Common.{sym, arith}
use Rattle.storage.proofs.Requests.{given-split, given-whole, give-split, give-whole}
use Rattle.storage.proofs.request.give.Goals as goal

pub returns-then-over-ge3 : goal.returns-then-over-ge3
returns-then-over-ge3 c = record {
  result_value = rw (c.of.ensures, c.number.ensures, c.size_at.ensures) (sym (given-split _ _ _ (omega (arith, c.if-over-ge3.true, c.size_at.ensures))));
  seg_after = rw (c.set_rover.ensures, c.split.ensures, c.size_at.ensures, c.next_at-next.ensures.result_value)
      (sym (give-split _ _ _ (omega (arith, c.if-over-ge3.true, c.size_at.ensures))));
}

pub returns-else-over-ge3 : goal.returns-else-over-ge3
returns-else-over-ge3 c = record {
  result_value = sym (given-whole _ _ _ (omega (arith, c.if-over-ge3.false, c.size_at.ensures)));
  seg_after = rw (c.set_rover-else-over-ge3.ensures, c.whole.ensures, c.size_at.ensures, c.next_at-next.ensures.result_value)
      (sym (give-whole _ _ _ (omega (arith, c.if-over-ge3.false, c.size_at.ensures))));
}
