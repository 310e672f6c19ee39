use Rattle.acceptance_storage.proofs.Tests.{never}
use mathlib.Core.Path.{sym, ◌∙◌}
use native.Mathlib.Omega.{arith}
use Rattle.acceptance_storage.proofs.Rounds.{round-start, round-bad, round-missing, round-on, round-last, round-clear}
use Rattle.acceptance_storage.proofs.ring.round.Goals as goal

pub round-init : goal.round-init
round-init c = round-start _ _ _ _ _ (omega (arith, c.requires.0)) c.requires.1

pub returns-then-not-linked_to : goal.returns-then-not-linked_to
returns-then-not-linked_to c = let unlinked = sym c.linked_to.ensures ∙ c.if-not-linked_to.true in record {
  value = sym (round-bad _ _ _ _ _ _ c.round.invariant (omega arith) _
      c.next_at-next.ensures.result_value unlinked);
  tally = λ t. absurd (never t);
}

pub returns-then-mark_at-eq0 : goal.returns-then-mark_at-eq0
returns-then-mark_at-eq0 c =
    let linked = sym c.linked_to.ensures ∙ c.if-not-linked_to.false in
    let none = round-missing _ _ _ _ _ _ c.round.invariant (omega arith) _ c.next_at-next.ensures.result_value linked
    c.index-place.ensures c.mark_at.ensures c.if-mark_at-eq0.true in record { value = sym none; tally = λ t. absurd (never t) }

pub lower-requires : goal.lower-requires
lower-requires c = omega (arith, c.mark_at.ensures)

pub round-preserved : goal.round-preserved
round-preserved c =
    let linked = sym c.linked_to.ensures ∙ c.if-not-linked_to.false in
    round-on _ _ _ _ _ _ c.round.invariant (omega arith) _
    c.next_at-next.ensures.result_value linked
    c.index-place.ensures c.mark_at.ensures c.if-mark_at-eq0.false
    c.lower.ensures (omega arith)

pub returns : goal.returns
returns c = record {
  value = c.linked_to-2.ensures ∙ sym (round-last _ _ _ _ _ _ c.round.invariant (omega arith));
  tally = λ t. round-clear _ _ _ _ _ _
      c.round.invariant (omega arith);
}
