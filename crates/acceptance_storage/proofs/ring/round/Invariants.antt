use Prim.Native.Nat.{◌-◌}
use Rattle.acceptance_storage.specs.Blocks.{free_starts}
use Rattle.acceptance_storage.proofs.Rounds.{Round}
use Rattle.acceptance_storage.proofs.ring.round.Given as goal

abbrev pub invariant-round : goal.invariant-round
invariant-round l = Round l.seg l.end.0 (free_starts l.seg) l.marks l.at.0 (l.count - l.counter)
