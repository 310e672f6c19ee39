use Rattle.std.proofs.Common.{◌≡◌, ℕ, Bool, List, eqb, sym, ◌∙◌, eq-eqb, ne_eqb, lt-ltb, le-ltb}
use lib.Pointwise.{pointwise}
use Rattle.manual.specs.Values.{same, conform}
use Rattle.elements.proofs.shapes.conform.Goals as goal

-- the library's equality of lists is the manual's
as_same : (a b : List ℕ) {t : Bool} → pointwise eqb a b ≡ t → same a b ≡ t
as_same a b h = h

pub returns-in-1-eq1 : goal.returns-in-1-eq1
unfolding conform
returns-in-1-eq1 c = simp (eq-eqb _ _ c.in-1-eq1.is-0, eq-eqb _ _ c.in-1-eq1.is-1, lt-ltb _ _ c.if-b-a.true)

pub returns-in-1-default : goal.returns-in-1-default
unfolding conform
returns-in-1-default c = simp (eq-eqb _ _ c.in-1-eq1.is-0, eq-eqb _ _ c.in-1-eq1.is-1, le-ltb _ _ c.if-b-a.false)

pub returns-in-1-default-2 : goal.returns-in-1-default-2
unfolding conform
returns-in-1-default-2 c = simp (eq-eqb _ _ c.in-1-default.is-0, ne_eqb _ _ c.in-1-default.is-1.1)

pub returns-in_default-eq1 : goal.returns-in_default-eq1
unfolding conform
returns-in_default-eq1 c = simp (ne_eqb _ _ c.in_default-eq1.is-0.1, eq-eqb _ _ c.in_default-eq1.is-1)

pub returns-in_default : goal.returns-in_default
unfolding conform
returns-in_default c = simp (ne_eqb _ _ c.in_default.is-0.1, ne_eqb _ _ c.in_default.is-1.1, ne_eqb _ _ c.if-a-b.true)

pub returns-in_default-2 : goal.returns-in_default-2
unfolding conform
returns-in_default-2 c = simp (ne_eqb _ _ c.in_default.is-0.1, ne_eqb _ _ c.in_default.is-1.1, eq-eqb _ _ c.if-a-b.false, as_same c.args.a.now c.args.b.now (sym c.eq.ensures ∙ c.if-eq.true))

pub returns-in_default-3 : goal.returns-in_default-3
unfolding conform
returns-in_default-3 c = simp (ne_eqb _ _ c.in_default.is-0.1, ne_eqb _ _ c.in_default.is-1.1, eq-eqb _ _ c.if-a-b.false, as_same c.args.a.now c.args.b.now (sym c.eq.ensures ∙ c.if-eq.false))
