use mathlib.Core.Path.{ap, ◌∙◌}
use Rattle.descriptor.specs.Kinds.{kind_of}
use Rattle.operands.specs.Variables.{resolved_variable}
use Rattle.operands.proofs.Resolving.{variable_direct}
use Rattle.operands.proofs.variables.follow.Goals as goal

pub returns-in-Indirect : goal.returns-in-Indirect
unfolding resolved_variable
returns-in-Indirect c = simp (← c.held-held.ensures, ← c.of.ensures, ← c.kind.ensures, c.in-Indirect.is, ← c.end.ensures)

pub returns-in_default : goal.returns-in_default
returns-in_default c = variable_direct _ _ _ _ c.held-held.ensures (c.kind.ensures ∙ ap kind_of c.of.ensures) c.in_default.not-Indirect
