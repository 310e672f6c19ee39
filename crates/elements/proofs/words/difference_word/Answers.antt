use native.Mathlib.Omega.{arith}
use Rattle.elements.proofs.Integral.{fast-difference}
use Rattle.elements.proofs.words.difference_word.Goals as goal

pub returns : goal.returns
returns c = λ p q r.
    fast-difference c.args.x c.args.y c.offset.result c.offset-2.result _ (omega arith) (omega arith) c.offset.ensures c.offset-2.ensures p q r c.back.ensures
