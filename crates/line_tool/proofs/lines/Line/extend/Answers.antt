use native.Mathlib.Omega.{arith}
use Rattle.std.proofs.lemmas.List.{take_all}
use Rattle.line_tool.proofs.Said.{part-in, part-over}
use Rattle.line_tool.proofs.lines.Line.extend.Goals as goal

pub returns-then-n-part-clause-line : goal.returns-then-n-part-clause-line
returns-then-n-part-clause-line c =
    rw c.in_ok-extend_from_slice.ensures.items
    (part-over _ _ _ _ (omega (arith, c.min-n.ensures, c.saturating_sub.ensures, c.len.ensures)) c.if-n-part.true)

pub returns-else-n-part-clause-line : goal.returns-else-n-part-clause-line
returns-else-n-part-clause-line c =
    rw (c.in_ok-extend_from_slice.ensures.items, take_all _ c.args.part.now c.if-n-part.false)
    (part-in _ _ _ (omega (arith, c.min-n.ensures, c.saturating_sub.ensures, c.len.ensures, c.if-n-part.false)))
