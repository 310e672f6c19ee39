use mathlib.Core.Path.{sym, ap, ◌∙◌}
use Rattle.imports.specs.Numbers.{number_at, above}
use Rattle.imports.proofs.Numbers.{cut, last, more, needless, weighed}
use Rattle.imports.proofs.number.number_at.Goals as goal

pub returns-in_err-first : goal.returns-in_err-first
unfolding number_at
returns-in_err-first c = c.from_residual.ensures ∙ sym (cut 3 _ _ c.in_err-first.ensures.none)

pub returns-then-first-lt128 : goal.returns-then-first-lt128
unfolding number_at
returns-then-first-lt128 c = let first = c.in_ok-first.ensures.some in sym (last 3 _ _ first.0 _ first.1 c.if-first-lt128.true)

pub returns-in_err-second : goal.returns-in_err-second
unfolding number_at
returns-in_err-second c = let first = c.in_ok-first.ensures.some in
    c.from_residual-in_err-second.ensures
    ∙ sym (more 3 _ _ first.0 _ first.1 c.if-first-lt128.false ∙ ap (above _) (cut 2 _ _ c.in_err-second.ensures.none))

pub returns-then-second-ge128 : goal.returns-then-second-ge128
unfolding number_at
returns-then-second-ge128 c = let first = c.in_ok-first.ensures.some in let second = c.in_ok-second.ensures.some in
    c.long_at.ensures
    ∙ sym (more 3 _ _ first.0 _ first.1 c.if-first-lt128.false ∙ ap (above _) (more 2 _ _ second.0 _ second.1 c.if-second-ge128.true))

pub returns-then-second-eq0 : goal.returns-then-second-eq0
unfolding number_at
returns-then-second-eq0 c = let first = c.in_ok-first.ensures.some in let second = c.in_ok-second.ensures.some in
    sym (more 3 _ _ first.0 _ first.1 c.if-first-lt128.false
    ∙ ap (above _) (last 2 _ _ second.0 _ second.1 c.if-second-ge128.false)
    ∙ needless _ _ _ c.if-second-eq0.true)

pub returns : goal.returns
unfolding number_at
returns c = let first = c.in_ok-first.ensures.some in let second = c.in_ok-second.ensures.some in
    sym (more 3 _ _ first.0 _ first.1 c.if-first-lt128.false
    ∙ ap (above _) (last 2 _ _ second.0 _ second.1 c.if-second-ge128.false)
    ∙ weighed _ _ _ c.if-second-eq0.false)
