use Rattle.machine.proofs.dispatch.scalar.Goals as goal

pub returns-in-Monadic : goal.returns-in-Monadic
returns-in-Monadic c = simp (c.in-Monadic.is, ← c.monadic.ensures)

pub returns-in-Dyadic : goal.returns-in-Dyadic
returns-in-Dyadic c = simp (c.in-Dyadic.is, ← c.dyadic.ensures)
