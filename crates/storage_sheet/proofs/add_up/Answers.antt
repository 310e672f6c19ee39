use Prim.Native.Nat.{◌+◌, ◌-◌, ◌<◌}
use lib.ListN.{length}
use mathlib.Core.Path.{◌≡◌, sym, ◌∙◌}
use mathlib.Core.Logic.{inl, inr}
use native.Mathlib.Omega.{arith}
use Rattle.storage_sheet.proofs.Adding.{adding-start, free-fits, free_on, array-fits, slop-fits, array-on, all-added}
use Rattle.storage_sheet.proofs.add_up.Goals.{then-free_at, else-free_at, else-walk-test, then-walk-test+then-stop-a}
use Rattle.storage_sheet.proofs.add_up.Goals as goal

pub walk-init : goal.walk-init
walk-init c = adding-start _ _ _ (omega arith)

pub overflow_add-free : goal.overflow_add-free
overflow_add-free c = let of = c.of-block.ensures in
    let size = rw of at c.size_at-size.ensures in
    let free = rw of at (sym c.free_at.ensures ∙ c.if-free_at.true) in
    record {
      fits = omega (
        arith,
        size,
        free-fits c.walk.invariant (omega arith) c.if-stop-a.false free
            c.requires,
      );
    }

pub overflow_add-arrays : goal.overflow_add-arrays
overflow_add-arrays c = let of = c.of-block.ensures in
    let size = rw of at c.size_at-size.ensures in
    let array = rw of at (sym c.free_at.ensures ∙ c.if-free_at.false) in
    record {
      fits = omega (
        arith,
        size,
        array-fits c.walk.invariant (omega arith) c.if-stop-a.false array
            c.requires,
      );
    }

pub overflow_add-slop : goal.overflow_add-slop
overflow_add-slop c = let of = c.of-block.ensures in
    let slop = rw of at c.slop_at-slop.ensures in
    let array = rw of at (sym c.free_at.ensures ∙ c.if-free_at.false) in
    record {
      fits = omega (
        arith,
        slop,
        slop-fits c.walk.invariant (omega arith) c.if-stop-a.false array
            c.requires,
      );
    }

pub walk-preserved : goal.walk-preserved
walk-preserved c = let of = c.of-block.ensures in
    let size = rw of at c.size_at-size.ensures in
    let span = rw of at c.span_at-span.ensures in
    let inv = c.walk.invariant in
    let some : 0 < length c.args.seg.now - c.walk.counter = omega arith in
    let fewer : length c.args.seg.now - (c.walk.counter + 1) ≡ length c.args.seg.now - c.walk.counter - 1 = omega arith in
    let low = c.if-stop-a.false in
    elim c.if-free_at.branch [
      | then-free_at w ↦
          rw (w.arrays-is, w.slop-is, w.free-is, span, size, fewer) (free_on inv some low (rw of at (sym c.free_at.ensures ∙ w.if-free_at.true)))
      | else-free_at w ↦
          rw (w.arrays-is, w.slop-is, w.free-is, span, size, fewer, rw of at w.slop_at-slop.ensures)
          (array-on inv some low (rw of at (sym c.free_at.ensures ∙ w.if-free_at.false)))
    ]

pub returns : goal.returns
returns c = all-added c.walk.invariant
    (elim c.walk-test.branch [
      | else-walk-test w ↦ inl (omega (arith, w.walk-test.false))
      | then-walk-test+then-stop-a w ↦ inr (omega (arith, w.walk-test.true), w.if-stop-a.true)
    ])
    (c.number-from.ensures ∙ c.blockptr.ensures)
    (c.number-stop.ensures ∙ c.dummy.ensures.result_value)
    (c.saturating_sub.ensures ∙ rw (c.number.ensures ∙ c.sbase.ensures))
