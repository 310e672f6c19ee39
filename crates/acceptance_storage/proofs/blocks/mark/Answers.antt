use Rattle.acceptance_storage.proofs.blocks.mark.Goals as goal

pub returns-then-free : goal.returns-then-free
returns-then-free c = record { value = rw c.if-free.true; arrays_after = rw c.if-free.true; frees_after = rw c.if-free.true c.raise.ensures }

pub returns : goal.returns
returns c = record { value = rw c.if-free.false; arrays_after = rw c.if-free.false c.raise-2.ensures; frees_after = rw c.if-free.false }
