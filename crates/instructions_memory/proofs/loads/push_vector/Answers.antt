use Rattle.std.proofs.lemmas.Result.{err_from_is_err_and}
use mathlib.Core.Path.{sym, ◌∙◌}
use native.Mathlib.Omega.{arith}
use Rattle.instructions_memory.proofs.Pushing.{vector-other, vector-full, vector-refused, vector-pushed}
use Rattle.instructions_memory.proofs.loads.push_vector.Goals as goal

pub returns-then-any_other : goal.returns-then-any_other
returns-then-any_other c = vector-other _ _ _ (sym c.any_other.ensures ∙ c.if-any_other.true)

pub returns-then-room-lt1 : goal.returns-then-room-lt1
returns-then-room-lt1 c = vector-full _ _ _ (sym c.any_other.ensures ∙ c.if-any_other.false) (omega (arith, c.if-room-lt1.true, c.room.ensures))

pub returns-in_err-replace_by_array : goal.returns-in_err-replace_by_array
returns-in_err-replace_by_array c = let passed = err_from_is_err_and c.from_residual.result c.from_residual.ensures.1 in
    rw (passed.1, passed.2, c.replace_by_array.ensures.seg_after)
    (vector-refused _ _ _ (sym c.any_other.ensures ∙ c.if-any_other.false) (omega (arith, c.if-room-lt1.false, c.room.ensures)) (sym c.in_err-replace_by_array.was ∙ c.replace_by_array.ensures.value))

pub returns : goal.returns
returns c = rw (c.jump.ensures, c.replace_by_array.ensures.seg_after)
    (vector-pushed _ _ _ (sym c.any_other.ensures ∙ c.if-any_other.false) (omega (arith, c.if-room-lt1.false, c.room.ensures)) (sym c.in_ok-replace_by_array.was ∙ c.replace_by_array.ensures.value))
