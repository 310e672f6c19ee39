use native.Mathlib.Omega.{arith}
use lib.ListN.{length}
use Rattle.line_tool.proofs.Hands.{put-room, put-long, put-short, long-short}
use Rattle.line_tool.proofs.pen.Pen.text.Goals as goal

pub returns-then-text-gt4096-clause-hand : goal.returns-then-text-gt4096-clause-hand
returns-then-text-gt4096-clause-hand c = put-long _ _ c.if-text-gt4096.true c.make_room.ensures.hand c.write.ensures.hand

pub returns-then-text-gt4096-clause-stays : goal.returns-then-text-gt4096-clause-stays
returns-then-text-gt4096-clause-stays c =
    long-short _ _ c.if-text-gt4096.true c.make_room.ensures.stays c.write.ensures.stays

pub returns-clause-hand : goal.returns-clause-hand
returns-clause-hand c =
    put-short _ _ (omega arith)
    (put-room (length c.args.text.now) _ c.make_room.new.self.held c.make_room.new.self.buffer _ c.make_room.ensures.hand (omega arith) c.put-self.ensures (omega arith) (omega arith))
