use native.Mathlib.Omega.{arith}
use mathlib.Core.Path.{refl, sym}
use lib.Seq.{length-take-le}
use Rattle.instructions_values.proofs.Few.{elements-few}
use Rattle.instructions_values.proofs.scalars.paired.Goals as goal

pub pairwise-requires-clause-pairable : goal.pairwise-requires-clause-pairable
pairwise-requires-clause-pairable c = let few = elements-few _ _ c.requires.readable.2 c.requires.readable.3 _ refl in (c.requires.pairable.0, omega (arith, c.requires.pairable.1))

pub slice_bounds-replace_by_like-end : goal.slice_bounds-replace_by_like-end
slice_bounds-replace_by_like-end c = omega (arith, elements-few _ _ c.requires.readable.2 c.requires.readable.3 _ c.elements_of-n.ensures)

pub slice_bounds-replace_by_like-end-2 : goal.slice_bounds-replace_by_like-end-2
slice_bounds-replace_by_like-end-2 c = sym (length-take-le _ _ (omega (arith, elements-few _ _ c.requires.readable.2 c.requires.readable.3 _ c.elements_of-n.ensures)))
