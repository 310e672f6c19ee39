use Prim.Native.Nat.{◌-◌, ◌<◌, ◌^◌}
use lib.ListN.{length}
use mathlib.Core.Path.{◌≡◌}
use Rattle.acceptance.specs.Tables.{chain_test}
use Rattle.acceptance.proofs.Chain.{chain_from}
use Rattle.acceptance.proofs.frames.frames_from.Given as goal

abbrev pub invariant-frames : goal.invariant-frames
invariant-frames l = (l.base < 2 ^ 32) × (chain_test l.seg l.regular l.alternate l.from ≡ chain_from (length l.seg - l.counter) l.seg l.regular l.alternate l.base)
