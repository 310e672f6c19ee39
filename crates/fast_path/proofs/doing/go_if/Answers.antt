use Prim.Native.Nat.{ℕ, ◌≤◌}
use mathlib.Core.Path.{sym, subst, ◌∙◌}
use Rattle.fast_path.proofs.Answers.{left, went}
use Rattle.fast_path.proofs.Going.{jump-taken, jump-passed}
use Rattle.fast_path.proofs.doing.go_if.Goals as goal

pub returns-then-count-lt1 : goal.returns-then-count-lt1
returns-then-count-lt1 c = λ h. λ b. λ named. λ low. λ high. left

pub returns-then-w-gt1 : goal.returns-then-w-gt1
returns-then-w-gt1 c = λ h. λ b. λ named. λ low. λ high. left

pub returns-then-w-wanted : goal.returns-then-w-wanted
returns-then-w-wanted c = let top = c.operand_at-w.ensures in
    λ h. λ b. λ named. λ low. λ high.
    went c.go.ensures.0 (jump-taken _ h _ _ b (subst (◌≤◌ 1) c.count.ensures c.if-count-lt1.false) (subst (λ (w : ℕ). w ≤ 1) top c.if-w-gt1.false) named low high (sym top ∙ c.if-w-wanted.true) c.discard.ensures c.go.ensures.1)

pub returns : goal.returns
returns c = let top = c.operand_at-w.ensures in
    λ h. λ b. λ named. λ low. λ high.
    went c.go-2.ensures.0 (jump-passed _ h _ _ b (subst (◌≤◌ 1) c.count.ensures c.if-count-lt1.false) (subst (λ (w : ℕ). w ≤ 1) top c.if-w-gt1.false) named (λ same. c.if-w-wanted.false (top ∙ same)) c.discard.ensures c.go-2.ensures.1)
