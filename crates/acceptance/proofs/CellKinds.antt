-- A cell's test passes exactly where the cell is of one of its kinds.
use Prim.Native.Nat.{ℕ, ◌+◌, ◌/◌, ◌%◌, ◌^◌, ◌<◌, ◌≤◌}
use mathlib.Core.Path.{◌≡◌, refl, ap}
use mathlib.Core.Bool.{Bool, true, false, not}
use mathlib.Core.List.{List}
use mathlib.Core.Logic.{◌⊎◌, inl, inr}
use native.Mathlib.Omega.{arith}
use lib.ListN.{get_or}
use lib.Dec.{leb, ltb, eqb}
use borrow.Author.Tests.{leb-true, ltb-true, eqb-true, eqb-false, le-leb, lt-ltb, eq-eqb, ne_eqb, not-true}
use Rattle.descriptor.specs.Fields.{is_array, address, undefined_word, local_word, global_word}
use Rattle.descriptor.specs.Kinds.{is_scalar}
use Rattle.segment.specs.State.{sbase, blockptr}
use Rattle.storage.specs.Heap.{count}
use Rattle.acceptance_storage.proofs.Tests.{both, passes, either}
use Rattle.acceptance.specs.Cells.{in_list, is_indirect, names_global, direct, pointing, free_cell}
use Rattle.acceptance.specs.Structure.{VariableOf, Direct, NamesGlobal, NamesVariable, DirectOrIndirect}

module _ (arrays : ℕ → ℕ) (w : ℕ) where
  pub direct-sound : direct arrays w ≡ true → Direct (λ a. 1 ≤ arrays a) w
  unfolding direct
  direct-sound h = go (is_scalar w) refl (eqb w undefined_word) refl
    where
      go : (p : Bool) → is_scalar w ≡ p → (q : Bool) → eqb w undefined_word ≡ q → Direct (λ a. 1 ≤ arrays a) w
      go true e q k = inl e
      go false e true k = inr (inl (eqb-true w undefined_word k))
      go false e false k =
          let b = both (is_array w) (leb 1 (arrays (address w))) (simp (e, k) at h) in inr (inr (b.0, leb-true 1 (arrays (address w)) b.1))

  pub direct-complete : Direct (λ a. 1 ≤ arrays a) w → direct arrays w ≡ true
  unfolding direct
  direct-complete (inl e) = simp e
  direct-complete (inr (inl e)) = either (is_scalar w) (simp (eq-eqb w undefined_word e))
  direct-complete (inr (inr k)) = either (is_scalar w) (either (eqb w undefined_word) (passes k.0 (le-leb 1 (arrays (address w)) k.1)))

-- The fields of an indirect word, and the word of its fields.
global-made : (w : ℕ) → w / 2 ^ 17 ≡ 0x180 → w / 2 ^ 16 % 2 ≡ 1 → w ≡ global_word (w % 2 ^ 16)
global-made w a b = omega arith

local-made : (w : ℕ) → w / 2 ^ 17 ≡ 0x180 → (w / 2 ^ 16 % 2 ≡ 1 → ⊥) → w ≡ local_word (w % 2 ^ 16)
local-made w a b = omega arith

global-fields : (w t : ℕ) → w ≡ global_word t → t < 2 ^ 16 → (w / 2 ^ 17 ≡ 0x180) × (w / 2 ^ 16 % 2 ≡ 1) × (w % 2 ^ 16 ≡ t)
global-fields w t e l = (omega arith, omega arith, omega arith)

local-fields : (w t : ℕ) → w ≡ local_word t → t < 2 ^ 16 → (w / 2 ^ 17 ≡ 0x180) × (w / 2 ^ 16 % 2 ≡ 0) × (w % 2 ^ 16 ≡ t)
local-fields w t e l = (omega arith, omega arith, omega arith)

module _ (s regular alternate vs frames : List ℕ) (w : ℕ) where
  pub pointing-sound : ((a : ℕ) → 0 < count a vs → VariableOf s regular alternate frames a) → pointing s (in_list vs) w ≡ true
      → NamesGlobal s w ⊎ NamesVariable s regular alternate frames w
  unfolding pointing
  pointing-sound v h = go (names_global w) refl
    where
      ind : is_indirect w ≡ true
      ind = (both (is_indirect w) _ h).0

      go : (g : Bool) → names_global w ≡ g → NamesGlobal s w ⊎ NamesVariable s regular alternate frames w
      go true e =
          let t = simp e at (both (is_indirect w) _ h).1 in
          let d = both _ (not (is_indirect (get_or s (address w) 0))) t in
          let b = both (leb 8 (address w)) (ltb (address w) (blockptr s)) d.0 in
          inl (record {
            target = address w;
            word = global-made w (eqb-true (w / 2 ^ 17) 0x180 ind) (eqb-true (w / 2 ^ 16 % 2) 1 e);
            low = leb-true 8 (address w) b.0;
            high = ltb-true (address w) (blockptr s) b.1;
            direct = not-true (is_indirect (get_or s (address w) 0)) d.1;
          })
      go false e =
          let t = simp e at (both (is_indirect w) _ h).1 in
          let b = both (leb 1 (count (address w) vs)) (not (is_indirect (get_or s (sbase s + address w) 0))) t in
          inr (record {
            target = address w;
            word = local-made w (eqb-true (w / 2 ^ 17) 0x180 ind) (eqb-false (w / 2 ^ 16 % 2) 1 e);
            variable = v (address w) (leb-true 1 (count (address w) vs) b.0);
            direct = not-true (is_indirect (get_or s (sbase s + address w) 0)) b.1;
          })

  pub pointing-complete : blockptr s ≤ 2 ^ 16 → ((a : ℕ) → VariableOf s regular alternate frames a → (0 < count a vs) × (a < 2 ^ 16))
      → NamesGlobal s w ⊎ NamesVariable s regular alternate frames w → pointing s (in_list vs) w ≡ true
  unfolding pointing
  pointing-complete small v (inl g) =
      let f = global-fields w g.target g.word (omega (arith, g.high)) in
      simp (eq-eqb (w / 2 ^ 17) 0x180 f.0, eq-eqb (w / 2 ^ 16 % 2) 1 f.1, f.2)
      (passes (passes (le-leb 8 g.target g.low) (lt-ltb g.target (blockptr s) g.high)) (ap not g.direct))
  pointing-complete small v (inr g) =
      let k = v g.target g.variable in
      let f = local-fields w g.target g.word k.1 in
      simp (eq-eqb (w / 2 ^ 17) 0x180 f.0, ne_eqb (w / 2 ^ 16 % 2) 1 (λ z. omega (arith, z, f.1)), f.2)
      (passes (le-leb 1 (count g.target vs) k.0) (ap not g.direct))

module _ (arrays : ℕ → ℕ) (s regular alternate vs frames : List ℕ) (w : ℕ) where
  pub free-sound : ((a : ℕ) → 0 < count a vs → VariableOf s regular alternate frames a) → free_cell s arrays (in_list vs) w ≡ true
      → DirectOrIndirect (λ a. 1 ≤ arrays a) s regular alternate frames w
  unfolding free_cell
  free-sound v h = go (direct arrays w) refl
    where
      go : (d : Bool) → direct arrays w ≡ d → DirectOrIndirect (λ a. 1 ≤ arrays a) s regular alternate frames w
      go true e = inl (direct-sound arrays w e)
      go false e = inr (pointing-sound s regular alternate vs frames w v (simp e at h))

  pub free-complete : blockptr s ≤ 2 ^ 16 → ((a : ℕ) → VariableOf s regular alternate frames a → (0 < count a vs) × (a < 2 ^ 16))
      → DirectOrIndirect (λ a. 1 ≤ arrays a) s regular alternate frames w → free_cell s arrays (in_list vs) w ≡ true
  unfolding free_cell
  free-complete small v (inl d) = simp (direct-complete arrays w d)
  free-complete small v (inr p) = either (direct arrays w) (pointing-complete s regular alternate vs frames w small v p)

-- More addresses may be those of arrays.
module _ {A B : ℕ → Type 0} (f : (a : ℕ) → A a → B a) where
  pub direct-map : {w : ℕ} → Direct A w → Direct B w
  direct-map (inl e) = inl e
  direct-map (inr (inl e)) = inr (inl e)
  direct-map {w} (inr (inr k)) = inr (inr (k.0, f (address w) k.1))

  pub either-map : {s regular alternate frames : List ℕ} {w : ℕ} → DirectOrIndirect A s regular alternate frames w → DirectOrIndirect B s regular alternate frames w
  either-map (inl d) = inl (direct-map d)
  either-map (inr p) = inr p
