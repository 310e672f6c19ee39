use Rattle.descriptor.specs.Kinds.{unsigned_kind}
use borrow.Author.Tests.{ne_eqb}
use Rattle.descriptor.proofs.unsigned_kind.Goals as goal

pub returns-in-1 : goal.returns-in-1
unfolding unsigned_kind
returns-in-1 c = simp (c.in-1.is, ← c.character_kind.ensures)

pub returns-in-2 : goal.returns-in-2
unfolding unsigned_kind
returns-in-2 c = simp (c.in-2.is, ← c.array_kind.ensures)

pub returns-in-3 : goal.returns-in-3
unfolding unsigned_kind
returns-in-3 c = simp (c.in-3.is, ← c.indirect_kind.ensures)

pub returns-in-4 : goal.returns-in-4
unfolding unsigned_kind
returns-in-4 c = simp (c.in-4.is, ← c.undefined_kind.ensures)

pub returns-in_default : goal.returns-in_default
unfolding unsigned_kind
returns-in_default c = simp (ne_eqb _ _ c.in_default.in_default-own.rest.0.0.0.1, ne_eqb _ _ c.in_default.in_default-own.rest.0.0.1, ne_eqb _ _ c.in_default.in_default-own.rest.0.1, ne_eqb _ _ c.in_default.in_default-own.rest.1)
