use native.Mathlib.Omega.{arith}
use Rattle.acceptance_storage.proofs.StateWords.{head-sound}
use Rattle.acceptance.proofs.Table.{proper}
use Rattle.acceptance.proofs.judge_storage.Goals as goal

pub blocks_test-requires : goal.blocks_test-requires
blocks_test-requires c = let a = c.args in
    let h = c.requires in
    (head-sound a.seg.now h.0, h.1, h.2, h.3)

pub judge_marked-requires : goal.judge_marked-requires
judge_marked-requires c = let a = c.args in
    let h = c.requires in
    let k = proper a.seg.now c.blocks_test.ensures.value _ c.in-Some.is in
    record {
      head = h.0;
      blocks = k.0;
      longest = h.1;
      long = omega (arith, h.3.long);
      frees = k.1;
      marked = c.blocks_test.ensures.marked k.0;
    }
