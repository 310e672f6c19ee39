use native.Mathlib.Omega.{arith}
use Rattle.std.proofs.Common.{lit≤}
use Rattle.line_tool.proofs.Hands.{put-room, decimal-length}
use Rattle.line_tool.proofs.pen.Pen.decimal.Goals as goal

pub returns-clause-hand : goal.returns-clause-hand
returns-clause-hand c =
    put-room 10 _ c.make_room.new.self.held c.make_room.new.self.buffer _ c.make_room.ensures.hand (omega arith) c.put_decimal-self.ensures (lit≤ tt) (decimal-length c.args.n)
