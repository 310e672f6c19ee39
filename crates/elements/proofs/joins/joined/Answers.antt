use Rattle.std.proofs.Common.{◌≡◌, ℕ, ◌<◌, ◌≤◌, false, ◌&&◌, ◌⊎◌, inl, inr, ◌∷◌, [], leb, sym, ◌∙◌, ne_eqb, le-leb}
use Rattle.std.proofs.lemmas.Bool.{lt-leb}
use Rattle.std.proofs.lemmas.Result.{err_from_is_err_and}
use Rattle.manual.specs.Values.{joined_shape}
use Rattle.manual.proofs.Joins.{rows-rank, joined-table}
use Rattle.elements.proofs.joins.joined.Goals.{then-not-has_rows-via-then-not-has_rows, then-not-has_rows-via-else-not-has_rows+then-not-has_rows-2}
use Rattle.elements.proofs.joins.joined.Goals as goal

pub returns-in_err-n : goal.returns-in_err-n
unfolding joined_shape
returns-in_err-n c = let p = err_from_is_err_and c.from_residual.result c.from_residual.ensures.1 in
    rw (p.1, p.2) (c.in_err-n.ensures [] ∙ rw (c.count.ensures, c.count-then-b-le1.ensures, le-leb _ _ c.if-a-le1.true, le-leb _ _ c.if-b-le1.true))

pub returns-then-b-le1 : goal.returns-then-b-le1
unfolding joined_shape
returns-then-b-le1 c = c.in_ok-n.ensures [] ∙ rw (c.count.ensures, c.count-then-b-le1.ensures, le-leb _ _ c.if-a-le1.true, le-leb _ _ c.if-b-le1.true)

-- one is above rank one
not-plain : (a b : ℕ) → ((a ≤ 1) × (1 < b)) ⊎ (1 < a) → (leb a 1 && leb b 1) ≡ false
not-plain a b (inl h) = rw (le-leb a 1 h.0, lt-leb b 1 h.1)
not-plain a b (inr h) = rw (lt-leb a 1 h)

pub returns-then-not-has_rows : goal.returns-then-not-has_rows
unfolding joined_shape
returns-then-not-has_rows c = let plain = not-plain _ _ c.else-a-le1.either in elim c.then-not-has_rows.branch [
  | then-not-has_rows-via-then-not-has_rows w ↦ simp (plain, ← c.has_rows.ensures, w.if-not-has_rows.true)
  | then-not-has_rows-via-else-not-has_rows+then-not-has_rows-2 w ↦ simp (plain, ← c.has_rows.ensures, w.if-not-has_rows.false, ← w.has_rows-else-not-has_rows.ensures, w.if-not-has_rows-2.true)
]

pub width-w-requires : goal.width-w-requires
width-w-requires c = (rows-rank c.args.a.now (sym c.has_rows.ensures ∙ c.if-not-has_rows.false)).0

pub width-requires : goal.width-requires
width-requires c = (rows-rank c.args.b.now (sym c.has_rows-else-not-has_rows.ensures ∙ c.if-not-has_rows-2.false)).0

pub returns-then-w-width : goal.returns-then-w-width
unfolding joined_shape
returns-then-w-width c = simp (not-plain _ _ c.else-a-le1.either, ← c.has_rows.ensures, c.if-not-has_rows.false, ← c.has_rows-else-not-has_rows.ensures, c.if-not-has_rows-2.false, ← c.width-w.ensures, ← c.width.ensures, ne_eqb c.width-w.result c.width.result c.if-w-width.true)

pub returns-in_err-n-2 : goal.returns-in_err-n-2
returns-in_err-n-2 c = let p = err_from_is_err_and c.from_residual-in_err-n-2.result c.from_residual-in_err-n-2.ensures.1 in
    rw (p.1, p.2) (c.in_err-n-2.ensures (c.width-w.result ∷ []) ∙ rw (c.rows.ensures, c.rows-2.ensures, c.width-w.ensures) (sym (joined-table c.args.a.now c.args.b.now (not-plain _ _ c.else-a-le1.either) (sym c.has_rows.ensures ∙ c.if-not-has_rows.false) (sym c.has_rows-else-not-has_rows.ensures ∙ c.if-not-has_rows-2.false) (sym c.width-w.ensures ∙ c.if-w-width.false ∙ c.width.ensures))))

pub returns : goal.returns
returns c = c.in_ok-n-2.ensures (c.width-w.result ∷ []) ∙ rw (c.rows.ensures, c.rows-2.ensures, c.width-w.ensures) (sym (joined-table c.args.a.now c.args.b.now (not-plain _ _ c.else-a-le1.either) (sym c.has_rows.ensures ∙ c.if-not-has_rows.false) (sym c.has_rows-else-not-has_rows.ensures ∙ c.if-not-has_rows-2.false) (sym c.width-w.ensures ∙ c.if-w-width.false ∙ c.width.ensures)))
