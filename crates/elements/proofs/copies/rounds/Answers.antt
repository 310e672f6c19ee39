use borrow.Rule.Slice.PartMut.{same_len_mid}
use Prim.Native.Nat.{◌-◌, ◌+◌}
use mathlib.Core.Path.{refl, ap, ◌∙◌}
use native.Mathlib.Omega.{arith}
use lib.ListN.{length}
use Rattle.manual.proofs.Elements.{length-cycle}
use Rattle.elements.proofs.Filling.{begun, filled-part, filled-all, rounds-start, rounds-on, round_is, round-fits, filled-from}
use Rattle.elements.proofs.copies.rounds.Goals as goal

pub loop-i-init : goal.loop-i-init
loop-i-init c = (omega arith, refl, refl, begun, rounds-start)

pub copy-requires : goal.copy-requires
copy-requires c = round-fits _ c.loop-i.i _ c.loop-i.to (omega arith) (omega arith)

pub loop-i-smaller : goal.loop-i-smaller
loop-i-smaller c = omega (arith, filled-from c.args.from.now c.requires (omega arith), c.min-count.ensures)

pub loop-i-preserved : goal.loop-i-preserved
loop-i-preserved c = let e = c.min-count.ensures in
    let f = round_is c.loop-i.invariant.4 c.loop-i-test.true c.requires e in (
      omega arith,
      refl,
      same_len_mid c.loop-i.i (c.loop-i.i + c.min-count.result - c.loop-i.i) c.loop-i.to c.copy.new.to (ap length c.copy.ensures ∙ round-fits c.min-count.result c.loop-i.i c.args.from.now c.loop-i.to (omega arith) (omega arith)) ∙ c.loop-i.invariant.2,
      filled-part c.loop-i.invariant.3 (omega arith) (rw (length-cycle _ _ c.requires) (omega arith)) (c.copy.ensures ∙ f),
      rounds-on c.loop-i.invariant.4 c.loop-i-test.true e,
    )

pub shape_of-to : goal.shape_of-to
shape_of-to c = c.loop-i.invariant.2

pub returns : goal.returns
returns c = filled-all c.loop-i.invariant.3 (rw (length-cycle _ _ c.requires) (omega arith)) (omega arith)
