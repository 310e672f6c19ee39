use mathlib.Core.Path.{sym}
use native.Mathlib.Omega.{arith}
use Rattle.instruction.proofs.Ranges.{is-short-local, is-short-const, is-gen-scalar, is-mem-ref, is-etc, is-long-local, is-long-global, is-index, is-unassigned}
use Rattle.instruction.proofs.family.family_of.Goals as goal

pub returns-in-0-to-63 : goal.returns-in-0-to-63
returns-in-0-to-63 c = sym (is-short-local _ (omega arith))

pub returns-in-64-to-95 : goal.returns-in-64-to-95
returns-in-64-to-95 c = sym (is-short-const _ (omega arith) (omega arith))

pub returns-in-96-to-127 : goal.returns-in-96-to-127
returns-in-96-to-127 c = sym (is-gen-scalar _ (omega arith) (omega arith))

pub returns-in-128-to-159 : goal.returns-in-128-to-159
returns-in-128-to-159 c = sym (is-mem-ref _ (omega arith) (omega arith))

pub returns-in-160-to-191 : goal.returns-in-160-to-191
returns-in-160-to-191 c = sym (is-etc _ (omega arith) (omega arith))

pub returns-in-192-to-207 : goal.returns-in-192-to-207
returns-in-192-to-207 c = sym (is-long-local _ (omega arith) (omega arith))

pub returns-in-208-to-223 : goal.returns-in-208-to-223
returns-in-208-to-223 c = sym (is-long-global _ (omega arith) (omega arith))

pub returns-in-224-to-239 : goal.returns-in-224-to-239
returns-in-224-to-239 c = sym (is-index _ (omega arith) (omega arith))

pub returns-in-240-to-255 : goal.returns-in-240-to-255
returns-in-240-to-255 c = sym (is-unassigned _ (omega arith) (omega arith))
