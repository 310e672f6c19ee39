use Rattle.std.proofs.Common.{◌≡◌, ◌+◌, ◌-◌, length, sym, ◌∙◌, ap, arith, eqb-true}
use borrow.Author.Tests.{eqb-false}
use Rattle.storage.specs.Request.{find}
use Rattle.storage.specs.Found.{found}
use Rattle.storage.proofs.Requests.{find-here, find-round, find-on, find_none, none_found, found-below}
use Rattle.storage.proofs.request.find.Goals as goal

pub loop-init : goal.loop-init
unfolding find
loop-init c = let all : length c.args.seg.now - 0 ≡ length c.args.seg.now = omega arith in (c.rover-stop.ensures, rw (c.rover-stop.ensures, all), omega (arith, c.rover-stop.ensures))

pub returns-then-size-size_at-clause-value : goal.returns-then-size-size_at-clause-value
returns-then-size-size_at-clause-value c = c.block_at.ensures ∙ ap found (sym (c.loop.invariant.1 ∙ find-here _ _ _ _ _ (omega arith) (omega arith)))

pub returns-then-size-size_at-clause-bound : goal.returns-then-size-size_at-clause-bound
returns-then-size-size_at-clause-bound c = found-below _ c.block_at.ensures (omega arith)

pub returns-then-eq-clause-value : goal.returns-then-eq-clause-value
returns-then-eq-clause-value c =
    none_found _ (c.loop.invariant.1 ∙ find-round _ _ _ _ _ (omega arith) (omega arith) (sym c.next_at-at.ensures.result_value ∙ eqb-true _ _ (sym c.if-eq.ensures)))

pub loop-preserved : goal.loop-preserved
loop-preserved c =
    let inv = c.loop.invariant in
    let left : length c.args.seg.now - c.loop.counter - 1 ≡ length c.args.seg.now - (c.loop.counter + 1) = omega arith in
    let on = find-on _ _ _ _ _ (omega arith) (omega arith) (λ e. eqb-false _ _ (sym c.if-eq.ensures) (c.next_at-at.ensures.result_value ∙ e)) in
    (inv.0, inv.1 ∙ on ∙ rw (left, ← c.next_at-at.ensures.result_value), c.next_at-at.ensures.result_bound)

pub returns-clause-value : goal.returns-clause-value
returns-clause-value c = none_found _ (c.loop.invariant.1 ∙ find_none _ _ _ _ _ (omega arith))
