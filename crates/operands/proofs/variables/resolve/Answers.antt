use mathlib.Core.Path.{◌≡◌}
use Rattle.operands.specs.Variables.{resolved}
use Rattle.operands.proofs.Resolving.{sure}
use Rattle.operands.proofs.variables.resolve.Goals as goal

pub returns-in-Local : goal.returns-in-Local
returns-in-Local c = let a = c.args in
    let e : c.resolve_local.result ≡ resolved a.seg.now a.variables a.address = simp (c.in-Local.is, ← c.resolve_local.ensures) in record { value = e; sure = sure _ a.variables a.address _ e }

pub returns-in-Global : goal.returns-in-Global
returns-in-Global c = let a = c.args in
    let e : c.resolve_global.result ≡ resolved a.seg.now a.variables a.address = simp (c.in-Global.is, ← c.resolve_global.ensures) in record { value = e; sure = sure _ a.variables a.address _ e }
