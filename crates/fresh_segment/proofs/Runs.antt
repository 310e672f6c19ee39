-- Runs of equal words: written, and read up and down.
use Prim.Native.Nat.{ℕ, zero, suc, ◌+◌, ◌≤◌, ◌<◌}
use mathlib.Core.Path.{◌≡◌, refl, ◌∙◌}
use mathlib.Core.List.{List, map}
use mathlib.Core.Logic.{inl, inr}
use native.Mathlib.Omega.{arith}
use lib.ListN.{get_or, set, length, replicate, length-set, length-replicate}
use lib.Seq.{sets, get_or-set_same}
use Rattle.segment.specs.Blocks.{part}
use Rattle.segment.specs.Stack.{downward}
use Rattle.descriptor.proofs.Truth.{by_le}
use Rattle.segment.proofs.Copies.{sets-other}

pub run_in : (n : ℕ) (s : List ℕ) (i c : ℕ) → i + n ≤ length s → (j : ℕ) → i ≤ j → j < i + n → get_or (sets s i (replicate n c)) j 0 ≡ c
run_in zero s i c h j l u = absurd (omega arith)
run_in (suc n) s i c h j l u =
    by_le (suc i) j
    (λ m. run_in n (set s i c) (suc i) c (omega (arith, length-set s i c)) j m (omega arith))
    (λ m.
    let e : j ≡ i = omega arith in
    let k : i < length s = omega arith in
    rw e (sets-other (replicate n c) (set s i c) (suc i) i (inl (omega arith)) ∙ rw get_or-set_same))

module _ (n : ℕ) (s : List ℕ) (i c j : ℕ) where
  pub run-below : j < i → get_or (sets s i (replicate n c)) j 0 ≡ get_or s j 0
  run-below l = sets-other (replicate n c) s i j (inl l)

  pub run-above : i + n ≤ j → get_or (sets s i (replicate n c)) j 0 ≡ get_or s j 0
  run-above l = sets-other (replicate n c) s i j (inr (omega (arith, length-replicate n c)))

pub map-part : {A : Type 0} (f : ℕ → A) (n : ℕ) (s : List ℕ) (a c : ℕ) → ((i : ℕ) → a ≤ i → i < a + n → get_or s i 0 ≡ c) → map f (part s a n) ≡ replicate n (f c)
map-part f zero s a c h = refl
map-part f (suc n) s a c h =
    let e : get_or s a 0 ≡ c = h a (omega arith) (omega arith) in
    let r : map f (part s (a + 1) n) ≡ replicate n (f c) = map-part f n s (a + 1) c (λ i l u. h i (omega arith) (omega arith)) in
    rw (e, r)

pub map-downward : {A : Type 0} (f : ℕ → A) (n : ℕ) (s : List ℕ) (a c : ℕ) → ((i : ℕ) → a ≤ i → i < a + n → get_or s i 0 ≡ c) → map f (downward s a n) ≡ replicate n (f c)
map-downward f zero s a c h = refl
map-downward f (suc n) s a c h =
    let e : get_or s (a + n) 0 ≡ c = h (a + n) (omega arith) (omega arith) in
    let r : map f (downward s a n) ≡ replicate n (f c) = map-downward f n s a c (λ i l u. h i l (omega arith)) in
    rw (e, r)
