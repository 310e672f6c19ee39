use Rattle.line_tool.proofs.Hashing.{Hashed}
use Rattle.line_tool.proofs.hash.hash_of.Given as goal

abbrev pub invariant-loop-w : goal.invariant-loop-w
invariant-loop-w l = Hashed l.words l.h l.w-index
