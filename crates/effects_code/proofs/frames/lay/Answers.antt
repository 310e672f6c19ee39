use mathlib.Core.Path.{refl}
use native.Mathlib.Omega.{arith}
use borrow.Author.Rules.{rules}
use Rattle.effects_code.proofs.FrameWords.{laid}
use Rattle.effects_code.proofs.frames.lay.Goals as goal

pub returns : goal.returns
returns c = let s = c.args in
    rw (c.put-2.ensures, c.put.ensures) (laid s.seg.now _ s.nlocals _ s.start _ s.last s.function refl (omega arith) (c.fill.ensures.after (search rules)))
