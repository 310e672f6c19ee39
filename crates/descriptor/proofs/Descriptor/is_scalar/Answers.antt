use mathlib.Core.Path.{sym}
use borrow.Author.Rules.{rules}
use Rattle.descriptor.proofs.Scalars.{small-scalar, large-scalar}
use Rattle.descriptor.specs.Kinds.{is_scalar, kind_of, integer_kind, unsigned_kind, character_kind, array_kind, indirect_kind, undefined_kind}
use borrow.Author.Tests.{eq-eqb}
use Rattle.descriptor.proofs.Descriptor.is_scalar.Goals as goal

pub returns-then-w-eq1 : goal.returns-then-w-eq1
unfolding is_scalar kind_of integer_kind unsigned_kind character_kind array_kind indirect_kind undefined_kind
returns-then-w-eq1 c = simp (eq-eqb _ _ c.if-w-eq1.true)

pub returns-then-w-le-INTEGER_LIMIT : goal.returns-then-w-le-INTEGER_LIMIT
unfolding is_scalar kind_of integer_kind unsigned_kind character_kind array_kind indirect_kind undefined_kind
returns-then-w-le-INTEGER_LIMIT c = sym (small-scalar _ (search rules) c.if-w-le-INTEGER_LIMIT.true)

pub returns : goal.returns
unfolding is_scalar kind_of integer_kind unsigned_kind character_kind array_kind indirect_kind undefined_kind
returns c = sym (large-scalar _ (search rules) c.if-w-eq1.false c.if-w-le-INTEGER_LIMIT.false)
