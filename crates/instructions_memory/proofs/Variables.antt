-- A plan for the variable that an address leads to, by what resolving answered.
use Rattle.std.specs.Prelude.{Result, Ok, Err}
use Rattle.trap.specs.declared.Trap.{Trap}
use Prim.Native.Nat.{ℕ}
use mathlib.Core.Path.{◌≡◌}
use mathlib.Core.List.{List}
use Rattle.manual.specs.OrTrap.{OrTrap, gives, and_then}
use Rattle.manual.specs.Effects.{Plan}
use Rattle.manual.specs.Seen as manual
use Rattle.effects.specs.Sources.{held_at}
use Rattle.effects.specs.Seen.{read}
use Rattle.operands.specs.declared.variables.Variable.{Variable}
use Rattle.operands.specs.Variables.{variable_seen, Sure}
use Rattle.effects.specs.Carried.{did, carry}

module _ (s : List ℕ) (v : Result Variable Trap) where
  pub variable-trapped : {t : Trap} (rest : manual.Variable → Plan) → v ≡ Err t → did (Err t) s ≡ carry s (and_then (variable_seen s v) rest)
  variable-trapped rest e = rw e

  module _ (x : Variable) (e : v ≡ Ok x) where
    pub variable-at : (plan : OrTrap manual.Variable → Plan) → carry s (plan (gives (manual.at x.target (read s x.held)))) ≡ carry s (plan (variable_seen s v))
    variable-at plan = rw e

    pub variable-sure : Sure s v → x.held ≡ held_at s x.target
    variable-sure sure = rw e at sure
