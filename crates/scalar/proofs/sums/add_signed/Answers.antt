use Rattle.std.proofs.Common.{arith}
use Rattle.scalar.proofs.Addition.{added, place-lt}
use Rattle.scalar.proofs.sums.add_signed.Goals as goal

pub overflow_add-x : goal.overflow_add-x
overflow_add-x c = omega (arith, c.place-2.ensures, c.place.ensures, place-lt c.args.s c.args.n c.requires.2, place-lt c.args.t c.args.m c.requires.3)

pub overflow_sub-result : goal.overflow_sub-result
overflow_sub-result c = omega (arith, c.place-2.ensures, c.place.ensures, place-lt c.args.s c.args.n c.requires.2, place-lt c.args.t c.args.m c.requires.3)

pub returns : goal.returns
returns c = added c.args.s c.args.n c.args.t c.args.m c.requires.0 c.requires.1 c.requires.2 c.requires.3 _ _ _ c.place.ensures c.place-2.ensures c.distance.ensures
