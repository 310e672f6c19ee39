use mathlib.Core.Path.{sym, ◌∙◌}
use native.Mathlib.Omega.{arith}
use Rattle.instructions_memory.proofs.Pushing.{load-undefined, load_full, variable-loaded}
use Rattle.instructions_memory.proofs.loads.load_word.Goals as goal

pub returns-then-is_undefined : goal.returns-then-is_undefined
returns-then-is_undefined c = λ t. λ held. load-undefined _ _ t _ (sym c.is_undefined.ensures ∙ c.if-is_undefined.true)

pub returns-then-room-lt1 : goal.returns-then-room-lt1
returns-then-room-lt1 c = λ t. λ held. load_full _ _ t _ (sym c.is_undefined.ensures ∙ c.if-is_undefined.false) (omega (arith, c.if-room-lt1.true, c.room.ensures))

pub returns : goal.returns
returns c = λ t. λ held. rw (c.jump.ensures, c.replace_by_share.ensures) (variable-loaded _ _ t _ held (sym c.is_undefined.ensures ∙ c.if-is_undefined.false) (omega (arith, c.if-room-lt1.false, c.room.ensures)))
