use mathlib.Core.Path.{refl, sym}
use native.Mathlib.Omega.{arith}
use lib.Seq.{length-take-le, take_at}
use Rattle.effects_code.proofs.storing.keep.Goals as goal

pub slice_bounds-copy-end-2 : goal.slice_bounds-copy-end-2
slice_bounds-copy-end-2 c = sym (length-take-le _ _ (omega arith))

pub copy-requires : goal.copy-requires
copy-requires c = sym (length-take-le _ _ (omega arith))

pub returns : goal.returns
returns c = record { value = refl; to_after = rw c.copy.ensures (take_at c.args.from.now _ _ refl) }
