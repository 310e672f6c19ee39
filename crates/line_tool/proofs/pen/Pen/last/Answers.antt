use native.Mathlib.Omega.{arith}
use Rattle.std.proofs.Common.{lit≤}
use Rattle.line_tool.proofs.Hands.{put-room, last-length}
use Rattle.line_tool.proofs.pen.Pen.last.Goals as goal

pub returns-clause-hand : goal.returns-clause-hand
returns-clause-hand c =
    put-room 256 _ c.make_room.new.self.held c.make_room.new.self.buffer _ c.make_room.ensures.hand (omega arith) c.put_last-self.ensures (lit≤ tt) (last-length c.args.last)
