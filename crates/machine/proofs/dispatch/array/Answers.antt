use Rattle.machine.proofs.dispatch.array.Goals as goal

pub returns-in-Shape : goal.returns-in-Shape
returns-in-Shape c = simp (c.in-Shape.is, ← c.shape.ensures)

pub returns-in-Reshape : goal.returns-in-Reshape
returns-in-Reshape c = simp (c.in-Reshape.is, ← c.reshape.ensures)

pub returns-in-Ravel : goal.returns-in-Ravel
returns-in-Ravel c = simp (c.in-Ravel.is, ← c.ravel.ensures)

pub returns-in-Catenate : goal.returns-in-Catenate
returns-in-Catenate c = simp (c.in-Catenate.is, ← c.catenate.ensures)

pub returns-in-IndexGenerator : goal.returns-in-IndexGenerator
returns-in-IndexGenerator c = simp (c.in-IndexGenerator.is, ← c.index_generator.ensures)
