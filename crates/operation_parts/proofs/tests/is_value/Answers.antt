use Rattle.std.proofs.Common.{◌≡◌, ◌&&◌, not, leb, ltb, length, ◌∙◌}
use borrow.Author.Tests.{le-leb, lt-leb}
use Rattle.descriptor.specs.Kinds.{is_scalar}
use Rattle.manual.specs.Values.{any}
use Rattle.operations.specs.Load.{is_value}
use Rattle.operation_parts.proofs.tests.is_value.Goals.{then-lengths-le15, else-lengths-le15, then-not-any_long, else-not-any_long}
use Rattle.operation_parts.proofs.tests.is_value.Goals as goal

pub returns-then-not-any_other : goal.returns-then-not-any_other
unfolding is_value
returns-then-not-any_other c =
    let a = c.args in
    let short : c.if-lengths-le15.value ≡ (leb (length a.lengths.now) 15 && not (any (λ l. ltb 65535 l) a.lengths.now)) =
    elim c.if-lengths-le15.branch [
      | then-lengths-le15 w ↦ w.value-is ∙ simp (le-leb _ _ w.if-lengths-le15.true, ← w.any_long.ensures)
      | else-lengths-le15 w ↦ w.value-is ∙ simp (lt-leb _ _ w.if-lengths-le15.false)
    ] in
    let scalars : c.if-not-any_long.value ≡ (c.if-lengths-le15.value && not (any (λ w. not (is_scalar w)) a.ravel.now)) =
    elim c.if-not-any_long.branch [
      | then-not-any_long w ↦ w.value-is ∙ simp (w.if-not-any_long.true, ← w.any_other.ensures)
      | else-not-any_long w ↦ w.value-is ∙ simp w.if-not-any_long.false
    ] in
    simp (← short, ← scalars, c.if-not-any_other.true, ← c.is_product.ensures)

pub returns-else-not-any_other : goal.returns-else-not-any_other
unfolding is_value
returns-else-not-any_other c =
    let a = c.args in
    let short : c.if-lengths-le15.value ≡ (leb (length a.lengths.now) 15 && not (any (λ l. ltb 65535 l) a.lengths.now)) =
    elim c.if-lengths-le15.branch [
      | then-lengths-le15 w ↦ w.value-is ∙ simp (le-leb _ _ w.if-lengths-le15.true, ← w.any_long.ensures)
      | else-lengths-le15 w ↦ w.value-is ∙ simp (lt-leb _ _ w.if-lengths-le15.false)
    ] in
    let scalars : c.if-not-any_long.value ≡ (c.if-lengths-le15.value && not (any (λ w. not (is_scalar w)) a.ravel.now)) =
    elim c.if-not-any_long.branch [
      | then-not-any_long w ↦ w.value-is ∙ simp (w.if-not-any_long.true, ← w.any_other.ensures)
      | else-not-any_long w ↦ w.value-is ∙ simp w.if-not-any_long.false
    ] in
    simp (← short, ← scalars, c.if-not-any_other.false)
