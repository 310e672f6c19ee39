use Rattle.std.proofs.Common.{ap, ◌∙◌, rules}
use Rattle.descriptor.specs.Fields.{sign}
use Rattle.scalar.specs.Results.{integer}
use Rattle.scalar.proofs.Ones.{whole-of-integer as near-integer, whole-large, whole-small}
use Rattle.scalar.proofs.wholes.whole_near.Goals as goal

pub returns-then-a-eq0 : goal.returns-then-a-eq0
returns-then-a-eq0 c = c.integer.ensures ∙ near-integer c.args.a c.args.up c.requires c.if-a-eq0.true

pub returns-then-p-gt150 : goal.returns-then-p-gt150
returns-then-p-gt150 c = whole-large c.args.a c.args.up _ _ c.unpack-p.ensures c.if-p-gt150.true c.if-a-eq0.false

pub returns : goal.returns
returns c = c.integer-2.ensures ∙ ap (integer (sign c.args.a)) c.ones.ensures ∙ whole-small c.args.a c.args.up _ _ c.unpack-p.ensures (search rules)
