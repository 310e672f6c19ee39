use mathlib.Core.Path.{◌≡◌}
use Rattle.line_tool.specs.Tokens.{is_of, after_all}
use Rattle.line_tool.proofs.tokens.after_all.Given as goal

abbrev pub invariant-loop-i : goal.invariant-loop-i
invariant-loop-i l = after_all (is_of l.kind) l.bytes l.i ≡ after_all (is_of l.kind) l.bytes l.from
