use Rattle.engine.proofs.run.run.Goals as goal

pub returns : goal.returns
returns c = record {
  seg_after = rw c.manual_table-table.ensures at c.run_with.ensures.seg_after;
  promised = rw c.manual_table-table.ensures at c.run_with.ensures.promised;
}
