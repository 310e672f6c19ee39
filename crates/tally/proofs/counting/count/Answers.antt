use Rattle.std.proofs.Common.{◌<◌, ◌^◌, get_or, set, sym, refl, ap, ◌∙◌, arith, rules, eqb-true}
use Rattle.instruction.specs.Families.{family_of, order_of}
use Rattle.tally.proofs.Laws.{count-up, count_past}
use Rattle.tally.proofs.counting.count.Goals as goal

pub returns-then-is_empty : goal.returns-then-is_empty
returns-then-is_empty c = let a = c.args in
    sym (count_past a.first a.counts.now (order_of (family_of a.first)) refl (omega (arith, eqb-true _ _ (sym c.if-is_empty.ensures))))

pub returns-then-i-counts : goal.returns-then-i-counts
returns-then-i-counts c = let a = c.args in
    let i = c.order-i.result in
    let word : get_or a.counts.now i 0 < 2 ^ 32 = search rules in
    ap (set a.counts.now i) (cc)
    ∙ sym (count-up a.first a.counts.now i (c.order-i.ensures ∙ ap order_of c.family_of.ensures) (omega arith))

pub returns-else-i-counts : goal.returns-else-i-counts
returns-else-i-counts c = let a = c.args in
    sym (count_past a.first a.counts.now c.order-i.result (c.order-i.ensures ∙ ap order_of c.family_of.ensures) (omega arith))
