use mathlib.Core.Path.{refl, sym, ◌∙◌}
use native.Mathlib.Omega.{arith}
use Rattle.acceptance_storage.proofs.Insides.{inside-free, inside-fails, inside-count, inside-elements}
use Rattle.acceptance_storage.proofs.arrays.inside_at.Goals as goal
use Rattle.acceptance_storage.proofs.arrays.inside_at.Goals.{then-rank-eq0-via-then-rank-eq0, then-rank-eq0-via-else-rank-eq0+then-rank-gt15, then-rank-eq0-via-else-rank-eq0+else-rank-gt15+then-size-rank}

pub returns-then-first-ge2147483648 : goal.returns-then-first-ge2147483648
returns-then-first-ge2147483648 c = inside-free c.args.seg.now c.args.a (omega arith)

pub returns-then-rank-eq0 : goal.returns-then-rank-eq0
returns-then-rank-eq0 c = inside-fails c.args.seg.now c.args.a (omega arith)
    (λ h. elim c.then-rank-eq0.branch [
      | then-rank-eq0-via-then-rank-eq0 w ↦ omega arith
      | then-rank-eq0-via-else-rank-eq0+then-rank-gt15 w ↦ omega arith
      | then-rank-eq0-via-else-rank-eq0+else-rank-gt15+then-size-rank w ↦ omega arith
    ])

pub returns-then-element_count-size : goal.returns-then-element_count-size
returns-then-element_count-size c = let a = c.args in
    let array = c.if-first-ge2147483648.false in
    inside-fails a.seg.now a.a array
    (λ h. c.if-element_count-size.true (c.element_count.ensures
    ∙ inside-count a.seg.now a.a array c.requires.1 refl c.if-rank-eq0.false
    c.if-rank-gt15.false c.if-size-rank.false h))

pub returns : goal.returns
returns c = let a = c.args in
    let counted = sym c.element_count.ensures ∙ c.if-element_count-size.false in
    c.scalars_test.ensures
    ∙ inside-elements a.seg.now a.a c.if-first-ge2147483648.false
    c.requires.1 refl c.if-rank-eq0.false c.if-rank-gt15.false
    c.if-size-rank.false counted
