use native.Mathlib.Omega.{arith}
use Rattle.line_tool.specs.Pens.{number_room, number_text}
use Rattle.line_tool.proofs.Putting.{rest-on, rest-none}
use Rattle.line_tool.proofs.Hands.{going, going-on, gone}
use Rattle.line_tool.proofs.pen.Pen.numbers.Goals as goal
use Rattle.line_tool.proofs.pen.Pen.numbers.Goals.{in-Decimal, in-Hex}

pub loop-n-init : goal.loop-n-init
loop-n-init c = going

pub loop-n-preserved : goal.loop-n-preserved
unfolding number_room number_text
loop-n-preserved c =
    let next = rest-on c.args.numbers.now c.loop-n.n-index (omega arith) in
    elim c.match-base.branch [
      | in-Decimal w ↦ rw w.self-is (going-on c.loop-n.invariant next c.text.ensures.hand c.text.ensures.stays (simp w.in-Decimal.is w.decimal.ensures.hand) (simp w.in-Decimal.is w.decimal.ensures.stays))
      | in-Hex w ↦ rw w.self-is (going-on c.loop-n.invariant next c.text.ensures.hand c.text.ensures.stays (simp w.in-Hex.is w.hex.ensures.hand) (simp w.in-Hex.is w.hex.ensures.stays))
    ]

pub returns : goal.returns
returns c =
    let done = gone c.loop-n.invariant (rest-none c.args.numbers.now {i = c.loop-n.n-index} (omega arith)) in
    record { hand = done.0; stays = done.1 }
