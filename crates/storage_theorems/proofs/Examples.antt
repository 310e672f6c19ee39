-- M1's storage with no owner, and M2's in which one word owns the vector: the invariant holds of what examples compute.
use Prim.Native.Nat.{ℕ}
use mathlib.Core.List.{List, [], ◌∷◌}
use mathlib.Core.Logic.{inl}
use native.Mathlib.Omega.{arith}
use Rattle.storage.specs.Heap.{free}
use Rattle.storage.specs.Owned.{Owned, Proper}
use Rattle.storage.specs.Examples.{fresh, m1-heap}
use Rattle.storage_theorems.specs.Place.{NewArray}
use Rattle.storage_theorems.proofs.Place.{place-theorem}

m1-owned : Owned fresh []
m1-owned = record {
  blocks = free 21 ∷ [];
  ring = 33 ∷ [];
  heap = m1-heap;
  named = λ x l h. absurd (omega arith);
  counts = λ x size h. absurd h;
  inside = λ x size h. absurd h;
}

-- a free block of 21 words has room for the 8 that the vector needs
m2-owned : (elements : List ℕ) → Proper (5 ∷ []) elements → NewArray fresh [] (5 ∷ []) elements
unfolding m1-owned
m2-owned elements ok =
    let r = place-theorem (5 ∷ []) elements m1-owned ok in
    r.new (r.found.1 (inl (omega (arith, ok.size))))
