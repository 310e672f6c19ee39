-- A request is in vain by the free blocks exactly where it is full by the words.
use Prim.Native.Nat.{ℕ}
use mathlib.Core.Path.{◌≡◌, refl, sym}
use mathlib.Core.Bool.{Bool, true, false, not, ◌&&◌}
use mathlib.Core.List.{List, [], ◌∷◌}
use mathlib.Core.Logic.{◌↔◌, ◌≢◌}
use native.Mathlib.Omega.{arith}
use lib.Dec.{ltb}
use borrow.Author.Tests.{lt-ltb, le-ltb}
use Rattle.storage_theorems.specs.Words.{HasRoom}
use Rattle.storage.specs.Heap.{Block}
use Rattle.acceptance_storage.specs.Room.{long_enough}
use Rattle.acceptance_storage.proofs.Tests.{never, fails, by-eq}
use Rattle.acceptance_storage.proofs.Room.{room-told}
use Rattle.acceptance.specs.Structure.{Accepted}
use Rattle.manual.specs.Effects.{Effect}
use Rattle.effects.specs.Requests.{FirstFits}
use Rattle.effects.specs.Perform.{wanted, first_full}
use Rattle.effects_theorems.specs.Theorems.{AsksInVain}
use Rattle.effects_theorems.proofs.Theorems.{effects-theorems}
use Rattle.step_theorems.proofs.Again.{sound-of}
use Rattle.audit.specs.Steps.{in_vain}

same_truth : (a b : Bool) → (a ≡ true → b ≡ true) → (b ≡ true → a ≡ true) → a ≡ b
same_truth true b f g = sym (f refl)
same_truth false true f g = g refl
same_truth false false f g = refl

none_passes : (b : Bool) → (b && false) ≡ true → ⊥
none_passes true q = never q
none_passes false q = never q

module _ (s regular alternate : List ℕ) (h : Accepted s regular alternate) where
  abbrev blocks : List Block
  blocks = h.owned.blocks

  pub has_room : (n : ℕ) → (long_enough s n ≡ true) ↔ HasRoom blocks n
  has_room n = room-told s blocks h.owned.ring (record { head = h.head; heap = h.owned.heap; inside = h.owned.inside }) n

  in-vain : (n : ℕ) → ((n ≢ 0) × (HasRoom blocks n → ⊥)) ↔ ((ltb 0 n && not (long_enough s n)) ≡ true)
  in-vain n = (
    λ k. let l = lt-ltb 0 n (omega (arith, k.0)) in let m = fails (long_enough s n) (λ q. k.1 ((has_room n).0 q)) in rw (l, m),
    λ k. by-eq n 0 (λ z. let l = le-ltb 0 n (omega (arith, z)) in absurd (never (rw l at k))) (λ z. (z, λ r. none_passes (ltb 0 n) (rw ((has_room n).1 r) at k))),
  )

  by_blocks : (es : List Effect) → AsksInVain s blocks es ↔ (in_vain s es ≡ true)
  by_blocks [] = (λ q. absurd q, λ q. never q)
  by_blocks (e ∷ es) = in-vain (wanted s e)

  pub vain-full : (es : List Effect) → FirstFits s es → first_full s es ≡ in_vain s es
  vain-full es first =
      let t = effects-theorems.full s (sound-of h) es first in
      let b = by_blocks es in
      same_truth (first_full s es) (in_vain s es) (λ q. b.0 (t.0 q)) (λ q. t.1 (b.1 q))
