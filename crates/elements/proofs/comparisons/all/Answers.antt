use Rattle.elements.proofs.comparisons.all.Goals as goal

pub returns-then-not-one_kind : goal.returns-then-not-one_kind
returns-then-not-one_kind c t = cc

pub returns-then-not-one_kind-2 : goal.returns-then-not-one_kind-2
returns-then-not-one_kind-2 c t = cc

pub returns-in-Less : goal.returns-in-Less
returns-in-Less c = simp c.in-Less.is c.less.ensures

pub returns-in-Equal : goal.returns-in-Equal
returns-in-Equal c = simp c.in-Equal.is c.equal.ensures

pub returns-in_default : goal.returns-in_default
returns-in_default c t = cc
