use Rattle.machine.proofs.dispatch.memory_operation.Goals as goal

pub returns-in-AssignIndexed : goal.returns-in-AssignIndexed
returns-in-AssignIndexed c = simp (c.in-AssignIndexed.is, ← c.assign_indexed.ensures)

pub returns-in-Assign : goal.returns-in-Assign
returns-in-Assign c = simp (c.in-Assign.is, ← c.assign.ensures)

pub returns-in-AssignNoResult : goal.returns-in-AssignNoResult
returns-in-AssignNoResult c = simp (c.in-AssignNoResult.is, ← c.assign_no_result.ensures)

pub returns-in-Reference : goal.returns-in-Reference
returns-in-Reference c = simp (c.in-Reference.is, ← c.refer.ensures)

pub returns-in-TestDefined : goal.returns-in-TestDefined
returns-in-TestDefined c = simp (c.in-TestDefined.is, ← c.test_defined.ensures)
