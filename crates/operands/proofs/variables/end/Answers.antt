use mathlib.Core.Path.{ap, ◌∙◌}
use Rattle.descriptor.specs.Kinds.{kind_of}
use Rattle.operands.specs.Variables.{resolved_target}
use Rattle.operands.proofs.Resolving.{target_direct}
use Rattle.operands.proofs.variables.end.Goals as goal

pub returns-in-Indirect : goal.returns-in-Indirect
unfolding resolved_target
returns-in-Indirect c = simp (← c.held-held.ensures, ← c.of.ensures, ← c.kind.ensures, c.in-Indirect.is)

pub returns-in_default : goal.returns-in_default
returns-in_default c = target_direct _ _ _ _ c.held-held.ensures (c.kind.ensures ∙ ap kind_of c.of.ensures) c.in_default.not-Indirect
