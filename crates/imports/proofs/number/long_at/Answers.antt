use native.Mathlib.Omega.{arith}
use mathlib.Core.Path.{sym, ap, ◌∙◌}
use Rattle.imports.specs.Numbers.{above}
use Rattle.imports.proofs.Numbers.{cut, last, more, needless, weighed, both, weighed-twice, never_ending}
use Rattle.imports.proofs.number.long_at.Goals as goal

pub returns-in_err-third : goal.returns-in_err-third
returns-in_err-third c = c.from_residual.ensures ∙ sym (both _ _ (cut 1 _ _ c.in_err-third.ensures.none))

pub returns-then-third-eq0 : goal.returns-then-third-eq0
returns-then-third-eq0 c = let third = c.in_ok-third.ensures.some in
    sym (both _ _ (last 1 _ _ third.0 _ third.1 (omega arith)) ∙ ap (above _) (needless _ _ _ c.if-third-eq0.true))

pub returns-then-third-lt128 : goal.returns-then-third-lt128
returns-then-third-lt128 c = let third = c.in_ok-third.ensures.some in
    sym (both _ _ (last 1 _ _ third.0 _ third.1 c.if-third-lt128.true) ∙ weighed-twice _ _ _ _ c.if-third-eq0.false)

pub returns-in_err-fourth : goal.returns-in_err-fourth
returns-in_err-fourth c = let third = c.in_ok-third.ensures.some in
    c.from_residual-in_err-fourth.ensures
    ∙ sym (both _ _ (more 1 _ _ third.0 _ third.1 c.if-third-lt128.false ∙ ap (above _) (cut 0 _ _ c.in_err-fourth.ensures.none)))

pub returns-then-fourth-ge128 : goal.returns-then-fourth-ge128
returns-then-fourth-ge128 c = let third = c.in_ok-third.ensures.some in let fourth = c.in_ok-fourth.ensures.some in
    sym (never_ending _ _ _ _ third.0 (omega arith) fourth.0 (omega arith))

pub returns-then-fourth-eq0 : goal.returns-then-fourth-eq0
returns-then-fourth-eq0 c = let third = c.in_ok-third.ensures.some in let fourth = c.in_ok-fourth.ensures.some in
    sym (both _ _ (more 1 _ _ third.0 _ third.1 c.if-third-lt128.false
    ∙ ap (above _) (last 0 _ _ fourth.0 _ fourth.1 (omega arith))
    ∙ needless _ _ _ c.if-fourth-eq0.true))

pub returns : goal.returns
returns c = let third = c.in_ok-third.ensures.some in let fourth = c.in_ok-fourth.ensures.some in
    sym (both _ _ (more 1 _ _ third.0 _ third.1 c.if-third-lt128.false
    ∙ ap (above _) (last 0 _ _ fourth.0 _ fourth.1 (omega arith))
    ∙ weighed _ _ _ c.if-fourth-eq0.false)
    ∙ weighed-twice _ _ _ _ (λ none. c.if-fourth-eq0.false (omega arith)))
