-- A word shared and a word dropped change one count, or release the block: the theorems of specs/Counts.
use Prim.Native.Nat.{ℕ, ◌+◌, ◌%◌, ◌^◌, ◌<◌}
use mathlib.Core.Path.{◌≡◌, sym, ◌∙◌, ap}
use mathlib.Core.Bool.{Bool, true, false, cond}
use mathlib.Core.List.{List, ◌∷◌}
use mathlib.Core.Logic.{◌⊎◌, inl, inr}
use native.Mathlib.Omega.{arith}
use lib.ListN.{get_or, set, length}
use borrow.Author.Tests.{eq-eqb, ne_eqb}
use Rattle.descriptor.specs.Fields.{is_array, address, array_word}
use Rattle.segment.specs.State.{blockptr}
use Rattle.segment.specs.Blocks.{count_at}
use Rattle.storage.specs.Arrays.{raise, lower, share, drop_word}
use Rattle.storage.specs.Heap.{count}
use Rattle.storage.specs.Owned.{ArrayIn, Owned}
use Rattle.storage_theorems.proofs.Counts.{count-le, hit_same}
use Rattle.storage_theorems.proofs.Release.{release-theorem}
use Rattle.storage_theorems.specs.Counts.{Share, Drop}
use Rattle.descriptor.proofs.Arrays.{array_of}
use Rattle.storage_theorems.proofs.Steps.{share-own, drop_own}

-- an owning word's array, and its count
owner : {s ws : List ℕ} (o : Owned s ws) (w : ℕ) → is_array w ≡ true → 0 < count w ws
    → (z : ℕ) × ArrayIn (blockptr s) o.blocks (address w) z × (count_at s (address w) ≡ count w ws)
owner {s} {ws} o w e h =
    let q : count (array_word (address w)) ws ≡ count w ws = ap (λ (v : ℕ). count v ws) (sym (array_of w e)) in
    let n = o.named (address w) (omega arith) (omega (arith, h, q)) in
    (n.0, n.1, (o.counts (address w) n.0 n.1).0 ∙ q)

module _ {s ws : List ℕ} (w : ℕ) where
  pub share-theorem : Owned s ws → length ws < 65535 → (0 < count w ws) ⊎ (is_array w ≡ false) → Share s ws w
  unfolding share raise
  share-theorem o few h = record { step = share-own w o few h; plain = λ e. simp e; raised = λ e. simp e (raised e h) }
    where
      raised : is_array w ≡ true → (0 < count w ws) ⊎ (is_array w ≡ false)
          → set s (address w + 1) ((get_or s (address w + 1) 0 + 2 ^ 16) % 2 ^ 32) ≡ set s (address w + 1) (get_or s (address w + 1) 0 + 2 ^ 16)
      raised e (inl k) =
          let q : (get_or s (address w + 1) 0 + 2 ^ 16) % 2 ^ 32 ≡ get_or s (address w + 1) 0 + 2 ^ 16 = omega
          (arith, (owner o w e k).2, few, count-le w ws) in
          rw q
      raised e (inr k) = let z : ◌≡◌ {A = ℕ} 0 1 = ap (λ (b : Bool). cond {A = ℕ} b 0 1) (sym e ∙ k) in absurd (omega arith)

  pub drop-theorem : (o : Owned s (w ∷ ws)) → Drop s ws w o
  unfolding drop_word lower
  drop-theorem o = record {
    step = drop_own w o;
    plain = λ e. simp e;
    lowered = λ e h. let r = owner o w e (omega (arith, h)) in simp (e, ne_eqb (count_at s (address w)) 1 (omega (arith, h, r.2, hit_same w)));
    last = λ e h. let r = owner o w e (omega (arith, hit_same w)) in
        (simp (e, eq-eqb (count_at s (address w)) 1 (omega (arith, h, r.2, hit_same w))), release-theorem o.heap (address w) r.0 r.1);
  }
