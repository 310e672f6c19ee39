use Rattle.std.proofs.Common.{◌≡◌, ◌-◌, ◌^◌, ◌<◌, length}
use Rattle.segment.specs.State.{rover}
use Rattle.storage.specs.Request.{find, find_from}
use Rattle.storage.proofs.request.find.Given as goal

abbrev pub invariant-loop : goal.invariant-loop
invariant-loop l = (l.stop.0 ≡ rover l.seg) × (find l.seg l.size ≡ find_from (length l.seg - l.counter) l.seg l.size l.stop.0 l.at.0) × (l.at.0 < 2 ^ 16)
