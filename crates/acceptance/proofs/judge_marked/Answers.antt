use mathlib.Core.Path.{sym, ◌∙◌}
use native.Mathlib.Omega.{arith}
use Rattle.acceptance_storage.proofs.StateWords.{head-sound}
use Rattle.acceptance.proofs.Compared.{all-tallied}
use Rattle.acceptance.proofs.judge_marked.Goals as goal

pub cells_test-requires : goal.cells_test-requires
cells_test-requires c = let a = c.args in
    let h = c.requires in
    let ringed = sym c.ring_test.ensures.value ∙ c.if-not-ring_test.false in
    let framed = sym c.frames_test.ensures ∙ c.if-not-frames_test.false in
    let clear = c.ring_test.ensures.tally ringed in
    record {
      head = head-sound a.seg.now h.head;
      longest = h.longest;
      frames = framed;
      array_marks = h.marked.array_marks;
      clear = record { long = omega (arith, h.long); empty = clear };
    }

pub counts_test-requires : goal.counts_test-requires
counts_test-requires c = let a = c.args in
    let h = c.requires in
    let met = c.cells_test.ensures.met c.if-not-cells_test.false in
    all-tallied a.seg.now (head-sound a.seg.now h.head) h.longest h.blocks h.marked.array_marks met
