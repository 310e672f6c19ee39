use mathlib.Core.Path.{◌∙◌, ap}
use Rattle.descriptor.specs.Kinds.{is_scalar}
use native.Mathlib.Omega.{arith}
use borrow.Author.Rules.{rules}
use Rattle.acceptance.specs.Cells.{in_table}
use Rattle.acceptance.proofs.Meeting.{meet-other, meet-array, direct-small, direct-array, direct-undefined, direct-scalar}
use Rattle.acceptance.proofs.cells.is_direct.Goals as goal

pub returns-then-w-le-INTEGER_LIMIT : goal.returns-then-w-le-INTEGER_LIMIT
returns-then-w-le-INTEGER_LIMIT c = record {
  value = direct-small (in_table c.args.arrays.now) c.args.w (search rules) c.if-w-le-INTEGER_LIMIT.true;
  arrays_after = meet-other
      c.args.arrays.now c.args.w (λ z. omega arith);
}

pub raise_marked-requires : goal.raise_marked-requires
raise_marked-requires c = c.requires _

pub returns-then-w : goal.returns-then-w
returns-then-w c = record {
  value = c.raise_marked.ensures.value
      ∙ direct-array (in_table c.args.arrays.now) c.args.w (search rules)
      c.if-w.true;
  arrays_after = c.raise_marked.ensures.table_after
      ∙ meet-array c.args.arrays.now c.args.w c.if-w.true;
}

pub returns-then-w-eq-UNDEFINED : goal.returns-then-w-eq-UNDEFINED
returns-then-w-eq-UNDEFINED c = record {
  value = direct-undefined (in_table c.args.arrays.now) c.args.w (search rules) c.if-w-eq-UNDEFINED.true;
  arrays_after = meet-other c.args.arrays.now
      c.args.w c.if-w.false;
}

pub returns : goal.returns
returns c = record {
  value = c.is_scalar.ensures ∙ ap is_scalar c.of.ensures
      ∙ direct-scalar (in_table c.args.arrays.now) c.args.w (search rules) c.if-w.false
      c.if-w-eq-UNDEFINED.false;
  arrays_after = meet-other c.args.arrays.now c.args.w c.if-w.false;
}
