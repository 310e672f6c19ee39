use Prim.Native.Nat.{◌-◌}
use native.Mathlib.Omega.{arith}
use Rattle.line_tool.proofs.Places.{text-cut}
use Rattle.line_tool.proofs.tokens.text.Goals as goal

pub returns-then-end-start : goal.returns-then-end-start
returns-then-end-start c = text-cut _ _ 0 (omega arith)

pub returns : goal.returns
returns c = text-cut _ _ (c.min-end.result - c.args.token.start) (omega arith)
