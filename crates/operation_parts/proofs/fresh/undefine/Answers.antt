use mathlib.Core.Path.{refl}
use native.Mathlib.Omega.{arith}
use borrow.Author.Rules.{rules}
use Rattle.effects_code.proofs.FrameWords.{filled-with}
use Rattle.operation_parts.proofs.fresh.undefine.Goals as goal

pub returns : goal.returns
returns c = let a = c.args in filled-with a.seg.now _ a.n _ a.start _ refl (omega arith) (c.fill.ensures.after (search rules))
