use mathlib.Core.Path.{ap, ◌∙◌}
use native.Mathlib.Omega.{arith}
use lib.ListN.{length}
use Rattle.effects.specs.Sources.{operand_at}
use Rattle.std.specs.Prelude.{Some}
use Rattle.operands.proofs.ValuesSeen.{array_whole, stands-whole, in_cell, in_block}
use Rattle.operands.proofs.reading.elements_part.Goals as goal

pub overflow_add-number : goal.overflow_add-number
overflow_add-number c = let w = stands-whole c.args.seg.now c.args.i c.args.v c.requires.0 c.in-Array.block c.in-Array.is in omega (arith, w, c.requires.1, c.number-in-Array.ensures)

pub overflow_add-number-in-Array : goal.overflow_add-number-in-Array
overflow_add-number-in-Array c = let w = stands-whole c.args.seg.now c.args.i c.args.v c.requires.0 c.in-Array.block c.in-Array.is in omega (arith, w, c.requires.1, c.number-in-Array.ensures, c.rank-rank.ensures)

pub elements_of-requires : goal.elements_of-requires
elements_of-requires c = array_whole c.args.seg.now (operand_at c.args.seg.now c.args.i) c.in-Array.block (c.requires.0 ∙ ap Some c.in-Array.is)

pub returns-in-Scalar : goal.returns-in-Scalar
returns-in-Scalar c = in_cell c.args.seg.now c.args.i c.args.v c.in-Scalar.field-0 c.of.result c.in-Scalar.is (c.of.ensures ∙ c.saturating_sub.ensures ∙ rw (c.number.ensures, c.top_cell.ensures.0))

pub returns-in-Array : goal.returns-in-Array
returns-in-Array c = in_block c.args.seg.now c.args.i c.args.v c.in-Array.block c.of-in-Array.result _ c.in-Array.is (c.of-in-Array.ensures ∙ rw (c.number-in-Array.ensures, c.rank-rank.ensures)) (ap length c.elements_of.ensures)
