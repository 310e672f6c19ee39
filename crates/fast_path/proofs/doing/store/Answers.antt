use mathlib.Core.Path.{sym, ◌∙◌}
use native.Mathlib.Omega.{arith}
use Rattle.fast_path.proofs.Answers.{left, went}
use Rattle.fast_path.proofs.Storing.{scalar-kept, scalar-stored}
use Rattle.fast_path.proofs.doing.store.Goals as goal

pub returns-then-count-lt1 : goal.returns-then-count-lt1
returns-then-count-lt1 c = λ resolved. λ t. λ stands. left

pub returns-then-not-is_scalar : goal.returns-then-not-is_scalar
returns-then-not-is_scalar c = λ resolved. λ t. λ stands. left

pub returns-then-not-is_plain : goal.returns-then-not-is_plain
returns-then-not-is_plain c = λ resolved. λ t. λ stands. left

pub returns-then-keep : goal.returns-then-keep
returns-then-keep c = λ resolved. λ t. λ stands. went c.go.ensures.0 (scalar-kept _ _ c.operand_at-w.ensures (sym c.is_scalar.ensures ∙ c.if-not-is_scalar.false) c.word.ensures (sym c.is_plain.ensures ∙ c.if-not-is_plain.false) _ _ (omega arith) stands c.if-keep.true c.put.ensures c.go.ensures.1)

pub returns : goal.returns
returns c = λ resolved. λ t. λ stands. went c.go-2.ensures.0 (scalar-stored _ _ c.operand_at-w.ensures (sym c.is_scalar.ensures ∙ c.if-not-is_scalar.false) c.word.ensures (sym c.is_plain.ensures ∙ c.if-not-is_plain.false) _ _ (omega arith) stands c.if-keep.false (λ zero. omega (arith, zero)) c.put.ensures c.discard.ensures c.go-2.ensures.1)
