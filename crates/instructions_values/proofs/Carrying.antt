-- A request for more than the longest segment has is never served.
use Prim.Native.Nat.{ℕ, ◌<◌}
use mathlib.Core.Path.{◌≡◌}
use mathlib.Core.List.{List, [], ◌∷◌}
use borrow.Author.Tests.{lt-ltb}
use Rattle.segment.specs.Blocks.{need}
use Rattle.manual.specs.OrTrap.{gives}
use Rattle.manual.specs.Effects.{made, replaces, jumps}
use Rattle.std.specs.Prelude.{Err}
use Rattle.trap.specs.Trap.{trap_of}
use Rattle.effects.specs.Carried.{did, carry}
use Rattle.effects_code.proofs.Carrying.{full-made}

pub carried-long : (s : List ℕ) (n : ℕ) (shape ravel : List ℕ) (next : ℕ) → 16384 < need shape ravel → did (Err (trap_of 1 2)) s ≡ carry s (gives (replaces n (made shape ravel) ∷ jumps next ∷ []))
carried-long s n shape ravel next more = rw (full-made s n shape ravel next) (simp (lt-ltb _ _ more))
