-- What is read after ROVER was written anew.
use Prim.Native.Nat.{ℕ, ◌/◌, ◌^◌, ◌<◌}
use mathlib.Core.Path.{◌≡◌}
use mathlib.Core.List.{List}
use mathlib.Core.Logic.{◌≢◌}
use native.Mathlib.Omega.{arith}
use lib.ListN.{get_or, length, length-set}
use lib.Seq.{get_or-set_same, get_or-set_other}
use Rattle.segment.specs.State.{rover, set_rover}

pub set_rover-other : (s : List ℕ) (v i : ℕ) → i ≢ 1 → get_or (set_rover s v) i 0 ≡ get_or s i 0
unfolding set_rover
set_rover-other s v i h = rw get_or-set_other

pub set_rover-rover : (s : List ℕ) (v : ℕ) → 1 < length s → v < 2 ^ 16 → rover (set_rover s v) ≡ v
unfolding set_rover
set_rover-rover s v h k = rw get_or-set_same (omega arith)

pub set_rover-length : (s : List ℕ) (v : ℕ) → length (set_rover s v) ≡ length s
unfolding set_rover
set_rover-length s v = simp length-set

pub set_rover-base : (s : List ℕ) (v : ℕ) → 1 < length s → v < 2 ^ 16 → get_or (set_rover s v) 1 0 / 2 ^ 16 ≡ get_or s 1 0 / 2 ^ 16
unfolding set_rover
set_rover-base s v h k = rw get_or-set_same (omega arith)
