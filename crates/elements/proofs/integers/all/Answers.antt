use Rattle.elements.proofs.integers.all.Goals as goal

pub returns-then-not-plain : goal.returns-then-not-plain
returns-then-not-plain c t = cc

pub returns-in-Sum : goal.returns-in-Sum
returns-in-Sum c = simp c.in-Sum.is c.sum.ensures

pub returns-in-Difference : goal.returns-in-Difference
returns-in-Difference c = simp c.in-Difference.is c.difference.ensures

pub returns-in-Product : goal.returns-in-Product
returns-in-Product c = simp c.in-Product.is c.product.ensures

pub returns-in_default : goal.returns-in_default
returns-in_default c t = cc
