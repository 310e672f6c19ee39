use Prim.Native.Nat.{◌*◌}
use lib.ListN.{drop}
use Rattle.line_tool.specs.Bytes.{pairs}
use Rattle.line_tool.proofs.Putting.{Putting}
use Rattle.line_tool.proofs.bytes.put_bytes.Given as goal

abbrev pub invariant-loop-i : goal.invariant-loop-i
invariant-loop-i l = Putting (pairs l.word) l.initial.out 0 (pairs (drop (2 * l.i) l.word)) l.out l.i
