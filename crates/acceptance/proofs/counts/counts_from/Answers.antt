use Prim.Native.Nat.{◌-◌}
use lib.ListN.{length}
use native.Mathlib.Omega.{arith}
use mathlib.Core.Path.{sym, ◌∙◌}
use Rattle.acceptance.proofs.Compared.{arrays-all, arrays-none, arrays-end, array-passes, array-fails, array-among, later-among}
use Rattle.acceptance.proofs.counts.counts_from.Goals as goal

pub walk-init : goal.walk-init
walk-init c = let s = c.args.seg.now in
    let all = arrays-all s c.args.from c.args.end {n = length s - 0} (omega arith) in (rw all, rw all (λ x k. k))

pub returns-then-end-a : goal.returns-then-end-a
returns-then-end-a c = sym (c.walk.invariant.0 ∙ arrays-end _ _ _ _ _ (omega arith) c.if-end-a.true)

pub is_counted-requires : goal.is_counted-requires
is_counted-requires c = rw c.of-block.ensures (λ f. c.requires.1 _
    (c.walk.invariant.1 _ (array-among _ _ _ _ (omega arith) c.if-end-a.false f)))

pub returns-then-not-is_counted : goal.returns-then-not-is_counted
returns-then-not-is_counted c = sym (c.walk.invariant.0
    ∙ array-fails _ _ _ _ _ (omega arith) c.if-end-a.false
    (rw c.of-block.ensures at c.is_counted.ensures) c.if-not-is_counted.true)

pub walk-preserved : goal.walk-preserved
walk-preserved c = (
  c.walk.invariant.0
      ∙ rw (c.span_at-a.ensures, c.of-block.ensures)
      (array-passes _ _ _ _ _ (omega arith) c.if-end-a.false
      (rw c.of-block.ensures at c.is_counted.ensures) c.if-not-is_counted.false (omega arith)),
  rw
      (c.span_at-a.ensures, c.of-block.ensures)
      (λ x k. c.walk.invariant.1 x
      (later-among _ _ _ _ (omega arith) c.if-end-a.false (omega arith) x k)),
)

pub returns : goal.returns
returns c = sym (c.walk.invariant.0 ∙ arrays-none _ _ _ _ _ (omega arith))
