use Rattle.elements.proofs.dyadic.fast.Goals as goal

pub returns-then-all : goal.returns-then-all
returns-then-all c t = c.all.ensures c.if-all.true
