use Rattle.procedure.proofs.Parts.{part-whole, part-rest, part_none}
use native.Mathlib.Omega.{arith}
use Rattle.procedure.specs.Headers.{code_of}
use Rattle.procedure.proofs.header.Block.code.Goals as goal

pub returns-then-end-all : goal.returns-then-end-all
unfolding code_of
returns-then-end-all c = cc (part-whole c.args.p.now c.first_byte-start.result c.code_end.result)

pub returns-then-start-all : goal.returns-then-start-all
unfolding code_of
returns-then-start-all c = cc (part-rest c.args.p.now c.first_byte-start.result c.code_end.result (omega arith))

pub returns : goal.returns
unfolding code_of
returns c = cc (part_none c.args.p.now c.first_byte-start.result c.code_end.result _ (omega arith))
