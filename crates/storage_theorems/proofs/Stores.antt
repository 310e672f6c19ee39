-- A store to a word of an array that is not its first keeps the heap.
use Prim.Native.Nat.{ℕ, ◌+◌, ◌-◌, ◌%◌, ◌^◌, ◌<◌}
use mathlib.Core.Path.{◌≡◌, refl, sym, ap}
use mathlib.Core.Bool.{false}
use mathlib.Core.List.{List, ◌∷◌}
use mathlib.Core.Logic.{◌≢◌}
use native.Mathlib.Omega.{arith}
use lib.ListN.{get_or, set, length-set}
use lib.Seq.{get_or-set_other}
use Rattle.segment.specs.State.{sbase, rover, blockptr}
use Rattle.storage.specs.Heap.{Block, count, Heap}
use Rattle.storage_theorems.specs.Words.{Inner}
use Rattle.storage_theorems.proofs.Counts.{hit_same}
use Rattle.storage_theorems.proofs.Ring.{links-same}
use Rattle.storage_theorems.proofs.Inner.{inner-above, inner_below, inner-apart, walk-inner}
use Rattle.storage_theorems.proofs.Heaps.{heap-make}

module _ {s : List ℕ} {bs : List Block} {t : List ℕ} (g : Heap s bs t) (i v : ℕ) (inn : Inner (blockptr s) bs i) where
  same : (j : ℕ) → j ≢ i → get_or (set s i v) j 0 ≡ get_or s j 0
  same j h = rw get_or-set_other

  low : (j : ℕ) → j < 8 → get_or (set s i v) j 0 ≡ get_or s j 0
  low j l = same j (omega (arith, g.low, inner-above (blockptr s) bs i inn))

  member-same : (x : ℕ) → 0 < count x (rover s ∷ t) → get_or (set s i v) (x + 1) 0 ≡ get_or s (x + 1) 0
  member-same x k = same (x + 1) (λ e. inner-apart s (blockptr s) false bs x i g.walk inn (omega (arith, k, g.once x)) (sym e))

  pub store-heap : (t' : List ℕ) × Heap (set s i v) bs t'
  store-heap =
      let ro : rover (set s i v) ≡ rover s = ap (λ (w : ℕ). w % 2 ^ 16) (low 1 (omega arith)) in
      heap-make g (set s i v) bs (length-set s i v) (low 0 (omega arith)) (low 4 (omega arith))
      (same (sbase s - 1) (omega (arith, g.top, inner_below (blockptr s) bs i inn)))
      (walk-inner s (set s i v) i same (blockptr s) false bs g.walk inn) refl
      (rover s) t (links-same s (set s i v) (rover s) t (rover s) g.links member-same (member-same (rover s) (omega (arith, hit_same (rover s)))))
      g.once
      (rover s) ro (omega (arith, g.once (rover s), hit_same (rover s)))
