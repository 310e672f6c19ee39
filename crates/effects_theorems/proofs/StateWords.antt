-- The state words that a step in array storage and a store leave.
use Prim.Native.Nat.{ℕ, ◌+◌, ◌*◌, ◌/◌, ◌^◌, ◌<◌, ◌≤◌}
use mathlib.Core.Path.{◌≡◌, refl, ◌∙◌, ap}
use mathlib.Core.List.{List}
use mathlib.Core.Logic.{◌≢◌, ◌⊎◌, inl, ⊎_elim}
use native.Mathlib.Omega.{arith}
use lib.ListN.{get_or, set, length, length-set}
use lib.Seq.{get_or-set_same, get_or-set_other}
use Rattle.segment.specs.State.{sbase, blockptr}
use Rattle.storage.specs.Owned.{CellsKept}
use Rattle.effects_theorems.specs.Theorems.{StateKept}

pub state-none : (s : List ℕ) → StateKept s s
state-none s = record { long = refl; base = refl; rest = λ i l u. refl }

pub state-on : {s s1 s2 : List ℕ} → StateKept s s1 → StateKept s1 s2 → StateKept s s2
state-on f g = record { long = g.long ∙ f.long; base = g.base ∙ f.base; rest = λ i l u. g.rest i l u ∙ f.rest i l u }

pub state-step : {s s' : List ℕ} → CellsKept s s' → 8 ≤ blockptr s → StateKept s s'
state-step k h = record {
  long = k.long;
  base = ap (λ (v : ℕ). v / 2 ^ 16) k.first;
  rest = λ i l u. k.rest i (omega arith) (inl (omega arith));
}

pub state-set : (s : List ℕ) (i w : ℕ) → 0 < i → (i < 3) ⊎ (8 ≤ i) → StateKept s (set s i w)
state-set s i w some h = record {
  long = length-set s i w;
  base = ap (λ (v : ℕ). v / 2 ^ 16) (other 0 (omega arith));
  rest = λ j l u. other j (⊎_elim (λ q. omega (arith, q)) (λ q. omega (arith, q)) h);
}
  where
    other : (j : ℕ) → j ≢ i → get_or (set s i w) j 0 ≡ get_or s j 0
    other j n = rw get_or-set_other

-- LTOP beside SBASE
pub state-top : (s : List ℕ) (v : ℕ) → 0 < length s → v < 2 ^ 16 → StateKept s (set s 0 (sbase s * 2 ^ 16 + v))
state-top s v some small = record {
  long = length-set s 0 (sbase s * 2 ^ 16 + v);
  base = rw get_or-set_same (omega arith);
  rest = λ j l u. let n : j ≢ 0 = omega arith in rw get_or-set_other;
}
