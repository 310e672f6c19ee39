use native.Mathlib.Omega.{arith}
use mathlib.Core.Path.{refl}
use Rattle.line_tool.proofs.Hashing.{hash-on, hash-all}
use Rattle.line_tool.proofs.hash.hash_of.Goals as goal

pub loop-w-init : goal.loop-w-init
loop-w-init c = record { so_far = refl }

pub loop-w-preserved : goal.loop-w-preserved
loop-w-preserved c = hash-on c.loop-w.invariant (omega arith) c.hash_step-h.ensures

pub returns : goal.returns
returns c = hash-all c.loop-w.invariant (omega arith)
