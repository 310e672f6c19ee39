use native.Mathlib.Omega.{arith}
use mathlib.Core.Path.{◌≡◌, sym}
use lib.Seq.{length-take-le}
use Rattle.std.specs.Prelude.{take, length}
use borrow.Author.Rules.{rules}
use Rattle.manual.specs.OrTrap.{gives}
use Rattle.operands.specs.Operands.{held}
use Rattle.operands.specs.declared.reading.Value.TheVariants.{Array}
use Rattle.elements.specs.Answers.{each_by}
use Rattle.instructions_values.proofs.Elementwise.{monadic-array}
use Rattle.instructions_values.proofs.Few.{elements-few, ranked}
use Rattle.instructions_values.proofs.scalars.monadic_array.Goals as goal

pub monadic-requires : goal.monadic-requires
monadic-requires c = omega (arith, elements-few _ _ c.requires.0 c.requires.1 _ c.elements_of-a.ensures)

pub slice_bounds-replace_by_like-end : goal.slice_bounds-replace_by_like-end
slice_bounds-replace_by_like-end c = omega (arith, elements-few _ _ c.requires.0 c.requires.1 _ c.elements_of-a.ensures)

pub slice_bounds-replace_by_like-end-2 : goal.slice_bounds-replace_by_like-end-2
slice_bounds-replace_by_like-end-2 c = sym (length-take-le _ _ (omega (arith, elements-few _ _ c.requires.0 c.requires.1 _ c.elements_of-a.ensures)))

pub returns : goal.returns
returns c = let a = c.args in
    let v = c.elements_of-a.result.now in
    let given : gives (take (length v) c.monadic.new.out) ≡ each_by a.op v = search rules in
    rw (monadic-array a.next.0 a.op (held a.seg.now (Array a.block)) (ranked _ _ c.requires.0), ← c.elements_of-a.ensures, ← given) c.replace_by_like.ensures
