use mathlib.Core.Path.{ap, ◌∙◌}
use Rattle.manual.specs.OrTrap.{OrTrap}
use Rattle.manual.specs.Scalars as plan
use Rattle.manual.specs.Values as values
use Rattle.effects.specs.Sources.{operand_at}
use Rattle.effects.specs.Carried.{carry}
use Rattle.operands.specs.Operands.{held}
use Rattle.instructions_values.proofs.Taking.{readable-found, passed-on, refused-by}
use Rattle.instructions_values.proofs.Vectors.{catenate-refused, catenate-joined}
use Rattle.instructions_values.proofs.arrays.join.Goals as goal

pub shape_of-requires : goal.shape_of-requires
shape_of-requires c = readable-found c.args.seg.now (operand_at c.args.seg.now 0) c.args.a c.requires.0.first

pub shape_of-requires-2 : goal.shape_of-requires-2
shape_of-requires-2 c = readable-found c.args.seg.now (operand_at c.args.seg.now 1) c.args.b c.requires.0.second

pub returns-in_err-n : goal.returns-in_err-n
returns-in_err-n c = let a = c.args in
    let shape = rw (c.shape_of.ensures, c.shape_of-2.ensures) at c.joined.ensures in
    passed-on c.from_residual.result c.from_residual.ensures.1
    (refused-by a.next.0 2 (catenate-refused (held a.seg.now a.a) (held a.seg.now a.b) _ _ (rw c.in_err-n.was at shape)))

pub returns-in-Vector : goal.returns-in-Vector
returns-in-Vector c = let a = c.args in
    let shape = rw (c.shape_of.ensures, c.shape_of-2.ensures) at c.joined.ensures in
    let made = catenate-joined (held a.seg.now a.a) (held a.seg.now a.b) _ (rw (c.in_ok-n.was, c.in-Vector.is) at shape) in
    c.join_as.ensures ∙ ap (λ (r : OrTrap values.Value). carry a.seg.now (plan.replace_by a.next.0 2 r)) made

pub returns-in-Matrix : goal.returns-in-Matrix
returns-in-Matrix c = let a = c.args in
    let shape = rw (c.shape_of.ensures, c.shape_of-2.ensures) at c.joined.ensures in
    let made = catenate-joined (held a.seg.now a.a) (held a.seg.now a.b) _ (rw (c.in_ok-n.was, c.in-Matrix.is) at shape) in
    c.join_as-in-Matrix.ensures ∙ ap (λ (r : OrTrap values.Value). carry a.seg.now (plan.replace_by a.next.0 2 r)) made
