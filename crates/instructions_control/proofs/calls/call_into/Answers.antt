use native.Mathlib.Omega.{arith}
use Rattle.instructions_control.proofs.Calling.{call-few, call-other, call-full, call_enters, room-kept}
use Rattle.instructions_control.proofs.calls.call_into.Goals as goal
use Rattle.instructions_control.proofs.calls.call_into.Goals.{then-count-arguments-via-then-count-arguments, then-count-arguments-via-else-count-arguments+then-arguments-called}

pub returns-then-count-arguments : goal.returns-then-count-arguments
returns-then-count-arguments c = elim c.then-count-arguments.branch [
  | then-count-arguments-via-then-count-arguments w ↦ call-few _ _ _ _ _ _ (omega arith)
  | then-count-arguments-via-else-count-arguments+then-arguments-called w ↦ call-other _ _ _ _ _ _ (omega arith) w.if-arguments-called.true
]

pub returns-then-room-called : goal.returns-then-room-called
returns-then-room-called c = call-full _ _ _ _ _ _ (omega arith) c.if-arguments-called.false (omega arith)

pub enter-requires : goal.enter-requires
enter-requires c = room-kept c.args.seg.now c.args.next.0 c.args.called.nlocals c.jump.ensures (omega arith) c.requires.1

pub returns : goal.returns
returns c = call_enters _ _ _ _ _ _ (omega arith) c.if-arguments-called.false (omega arith) c.jump.ensures (cc)
