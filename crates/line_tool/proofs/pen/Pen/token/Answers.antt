use native.Mathlib.Omega.{arith}
use Rattle.std.proofs.Common.{lit≤}
use Rattle.line_tool.proofs.Hands.{put-room, shown-length}
use Rattle.line_tool.proofs.pen.Pen.token.Goals as goal

pub returns-clause-hand : goal.returns-clause-hand
returns-clause-hand c =
    put-room 42 _ c.make_room.new.self.held c.make_room.new.self.buffer _ c.make_room.ensures.hand (omega arith) c.put_token-self.ensures (lit≤ tt) (shown-length c.args.token.now)
