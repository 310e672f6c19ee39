use native.Mathlib.Nat.{mul-le-mul}
use native.Mathlib.Omega.{arith}
use Rattle.descriptor.specs.Fields.{integer_limit}
use lib.ListN.{get_or}
use Rattle.acceptance_storage.proofs.Insides.{counting-start, counting-le, counting-end, counting-bad, counting-on}
use Rattle.acceptance_storage.proofs.arrays.element_count.Goals as goal

pub loop-length-init : goal.loop-length-init
loop-length-init c = counting-start _

pub returns-then-length-gt-INTEGER_LIMIT : goal.returns-then-length-gt-INTEGER_LIMIT
returns-then-length-gt-INTEGER_LIMIT c = counting-bad _ _ _ c.loop-length.invariant c.loop-length-test.true (omega arith)

pub overflow_mul-count : goal.overflow_mul-count
overflow_mul-count c = record {
  fits = omega (
    arith,
    mul-le-mul {n₁ = c.loop-length.count}
        {m₁ = get_or c.args.shape.now c.loop-length.length-index 0} {n₂ = 65536} {m₂ = integer_limit}
        (counting-le _ _ _ c.loop-length.invariant) (omega arith),
  );
}

pub loop-length-preserved : goal.loop-length-preserved
loop-length-preserved c = rw c.min-count.ensures (counting-on _ _ _ c.loop-length.invariant c.loop-length-test.true (omega arith))

pub returns : goal.returns
returns c = counting-end _ _ _ c.loop-length.invariant c.loop-length-test.false
