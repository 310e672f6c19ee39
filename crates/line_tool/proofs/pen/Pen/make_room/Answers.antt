use native.Mathlib.Omega.{arith}
use Rattle.line_tool.specs.Pens.{room_made}
use Rattle.line_tool.proofs.Hands.{hand-short, hand-wide}
use Rattle.line_tool.proofs.pen.Pen.make_room.Goals as goal

pub returns-then-saturating_sub-n-clause-hand : goal.returns-then-saturating_sub-n-clause-hand
unfolding room_made
returns-then-saturating_sub-n-clause-hand c = rw (hand-short c.args.self.now.held c.args.self.now.buffer c.args.n (omega arith) (omega arith)) c.flush.ensures.hand

pub returns-then-saturating_sub-n-clause-stays : goal.returns-then-saturating_sub-n-clause-stays
returns-then-saturating_sub-n-clause-stays c = rw (hand-short c.args.self.now.held c.args.self.now.buffer c.args.n (omega arith) (omega arith)) c.flush.ensures.stays

pub returns-else-saturating_sub-n-clause-hand : goal.returns-else-saturating_sub-n-clause-hand
unfolding room_made
returns-else-saturating_sub-n-clause-hand c = rw (hand-wide c.args.self.now.held c.args.self.now.buffer c.args.n (omega arith) (omega arith))
