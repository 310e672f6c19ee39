use mathlib.Core.List.{[], ◌∷◌, ◌++◌}
use mathlib.Core.Path.{sym, ◌∙◌}
use Rattle.std.proofs.lemmas.Result.{err_from_is_err_and}
use Rattle.manual.specs.Effects.{made, replaces, jumps}
use Rattle.effects_code.proofs.Carrying.{carry-refused, carry-served}
use Rattle.operands.specs.Operands.{held}
use Rattle.instructions_values.proofs.Vectors.{part-words, part-few}
use Rattle.instructions_values.proofs.arrays.join_as.Goals as goal

pub replace_by_joined-requires-clause-count_bound : goal.replace_by_joined-requires-clause-count_bound
replace_by_joined-requires-clause-count_bound c = let a = c.args in
    let first = part-few a.seg.now c.requires.1 0 a.a c.requires.0.first c.elements_part-first.result c.elements_part-first.ensures in
    let second = part-few a.seg.now c.requires.1 1 a.b c.requires.0.second c.elements_part-second.result c.elements_part-second.ensures in
    (first, second, c.requires.2)

pub returns-in_err-replace_by_joined : goal.returns-in_err-replace_by_joined
returns-in_err-replace_by_joined c = let a = c.args in
    let stand = c.requires.0 in
    let passed = err_from_is_err_and c.from_residual.result c.from_residual.ensures.1 in
    let first = part-words a.seg.now 0 a.a stand.first c.elements_part-first.result c.elements_part-first.ensures in
    let second = part-words a.seg.now 1 a.b stand.second c.elements_part-second.result c.elements_part-second.ensures in
    let r = c.replace_by_joined.ensures in
    rw (passed.1, passed.2, r.seg_after, first, second)
    (carry-refused a.seg.now (replaces 2 (made a.lengths.now ((held a.seg.now a.a).ravel ++ (held a.seg.now a.b).ravel))) (jumps a.next.0 ∷ []) (rw (first, second) at (sym c.in_err-replace_by_joined.was ∙ r.value)))

pub returns : goal.returns
returns c = let a = c.args in
    let stand = c.requires.0 in
    let first = part-words a.seg.now 0 a.a stand.first c.elements_part-first.result c.elements_part-first.ensures in
    let second = part-words a.seg.now 1 a.b stand.second c.elements_part-second.result c.elements_part-second.ensures in
    let r = c.replace_by_joined.ensures in
    rw (c.jump.ensures, r.seg_after, first, second)
    (carry-served a.seg.now (replaces 2 (made a.lengths.now ((held a.seg.now a.a).ravel ++ (held a.seg.now a.b).ravel))) (jumps a.next.0 ∷ []) (rw (first, second) at (sym c.in_ok-replace_by_joined.was ∙ r.value)))
