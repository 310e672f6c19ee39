-- The traps of an address and its indirection are in the table.
use Prim.Native.Nat.{ℕ, ◌-◌}
use mathlib.Core.Path.{refl}
use mathlib.Core.Bool.{◌||◌}
use lib.Dec.{ltb, leb}
use Rattle.descriptor.specs.declared.Target.{Target}
use Rattle.descriptor.specs.declared.Target.TheVariants.{Local, Global}
use Rattle.descriptor.specs.Kinds.{segment, stack}
use Rattle.segment.specs.Cells.{Cell, undefined, indirect, value, invalid}
use Rattle.manual.specs.Seen.{followed, follow, local_at, global_at}
use Rattle.manual.specs.Traps.{listed}
use Rattle.manual.proofs.Lists.{Listed, stops-listed}

followed-listed : (t : Target) (c : Cell) → Listed (followed t c)
unfolding listed
followed-listed t undefined = tt
followed-listed t (indirect u) = refl
followed-listed t (value shape ravel) = tt
followed-listed t invalid = tt

follow-listed : (read : Target → Cell) (t : Target) (c : Cell) → Listed (follow read t c)
follow-listed read t undefined = tt
follow-listed read t (indirect u) = followed-listed u (read u)
follow-listed read t (value shape ravel) = tt
follow-listed read t invalid = tt

pub local-listed : (read : Target → Cell) (base variables v : ℕ) → Listed (local_at read base variables v)
unfolding listed
local-listed read base variables v =
    stops-listed (ltb v 1 || ltb variables v) _ _ _ refl (follow-listed read (Local (stack (base - v))) (read (Local (stack (base - v)))))

pub global-listed : (read : Target → Cell) (blockptr g : ℕ) → Listed (global_at read blockptr g)
unfolding listed
global-listed read blockptr g =
    stops-listed (ltb g 8 || leb blockptr g) _ _ _ refl (follow-listed read (Global (segment g)) (read (Global (segment g))))
