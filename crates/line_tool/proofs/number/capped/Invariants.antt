use Prim.Native.Nat.{◌^◌}
use Rattle.line_tool.proofs.Numerals.{CappedFrom}
use Rattle.line_tool.proofs.number.capped.Given as goal

abbrev pub invariant-loop-b : goal.invariant-loop-b
invariant-loop-b l = CappedFrom l.base (2 ^ 32) l.word l.n l.b-index
