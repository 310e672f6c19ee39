use Rattle.acceptance_storage.proofs.Tests.{never}
use mathlib.Core.Path.{sym, ◌∙◌}
use Rattle.acceptance_storage.proofs.Rounds.{ring-off, ring-on}
use Rattle.acceptance_storage.proofs.ring.ring_test.Goals as goal

pub returns-then-on_ring : goal.returns-then-on_ring
returns-then-on_ring c = let a = c.args in
    let on = sym c.on_ring.ensures ∙ c.if-on_ring.true in
    let round = c.round.ensures in
    let e = ring-on a.seg.now a.marks.now c.requires.1 _ _ c.rover.ensures c.dummy-end.ensures.result_value on _ round.value in record { value = e; tally = λ t. round.tally (e ∙ t) }

pub returns-else-on_ring : goal.returns-else-on_ring
returns-else-on_ring c = let a = c.args in
    let off = sym c.on_ring.ensures ∙ c.if-on_ring.false in
    let e = ring-off a.seg.now a.marks.now c.requires.1 _ _ c.rover.ensures
    c.dummy-end.ensures.result_value off in record { value = c.if-on_ring.false ∙ sym e; tally = λ t. absurd (never (sym e ∙ t)) }
