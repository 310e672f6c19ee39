-- A free block that is long enough: by the walk's starts, and by the list of blocks.
use Prim.Native.Nat.{ℕ, ◌+◌, ◌^◌, ◌<◌}
use mathlib.Core.Path.{◌≡◌, refl}
use mathlib.Core.Bool.{Bool, true, false, cond}
use mathlib.Core.List.{List, [], ◌∷◌}
use mathlib.Core.Logic.{◌↔◌, ◌⊎◌, inl, inr, ⊎_elim}
use native.Mathlib.Omega.{arith}
use lib.Dec.{leb}
use borrow.Author.Tests.{le-leb, leb-true}
use Rattle.segment.specs.State.{blockptr}
use Rattle.segment.specs.Blocks.{size_at}
use Rattle.storage.specs.Heap.{Block, free, array, Walk, over, frees}
use Rattle.storage_theorems.specs.Words.{HasRoom}
use Rattle.storage_theorems.proofs.Walks.{over-le}
use Rattle.acceptance_storage.specs.Structure.{Stored}
use Rattle.acceptance_storage.specs.Room.{some, long_enough}
use Rattle.acceptance_storage.proofs.Tests.{never, either}
use Rattle.acceptance_storage.proofs.Structure.{stored-frees}

-- either of two tests
some-either : (b c : Bool) → cond b true c ≡ true → (b ≡ true) ⊎ (c ≡ true)
some-either true c h = inl refl
some-either false c h = inr h

module _ (s : List ℕ) (n : ℕ) where
  abbrev fits : ℕ → Bool
  fits a = leb n (size_at s a)

  free-size : (a : ℕ) (before : Bool) (m : ℕ) (blocks : List Block) → Walk s a before (free m ∷ blocks) → over a (free m ∷ blocks) < 2 ^ 16 → size_at s a ≡ m
  free-size a before m blocks w l = omega (arith, w.0.first, over-le (a + m) blocks)

  walk-room : (a : ℕ) (before : Bool) (blocks : List Block) → Walk s a before blocks → over a blocks < 2 ^ 16 → some fits (frees a blocks) ≡ true → HasRoom blocks n
  walk-room a before [] w l h = never h
  walk-room a before (free m ∷ blocks) w l h =
      ⊎_elim (λ e. inl (omega (arith, leb-true n (size_at s a) e, free-size a before m blocks w l)))
      (λ e. inr (walk-room (a + m) true blocks w.1 l e))
      (some-either (fits a) _ h)
  walk-room a before (array m slop ∷ blocks) w l h = walk-room (a + (m + slop)) false blocks w.1 l h

  room-walk : (a : ℕ) (before : Bool) (blocks : List Block) → Walk s a before blocks → over a blocks < 2 ^ 16 → HasRoom blocks n → some fits (frees a blocks) ≡ true
  room-walk a before [] w l h = elim h [ ]
  room-walk a before (free m ∷ blocks) w l (inl h) = simp (le-leb n (size_at s a) (omega (arith, free-size a before m blocks w l)))
  room-walk a before (free m ∷ blocks) w l (inr h) = either (fits a) (room-walk (a + m) true blocks w.1 l h)
  room-walk a before (array m slop ∷ blocks) w l h = room-walk (a + (m + slop)) false blocks w.1 l h

module _ (s : List ℕ) (blocks : List Block) (ring : List ℕ) (h : Stored s blocks ring) (n : ℕ) where
  near : over (blockptr s) blocks < 2 ^ 16
  near = omega (arith, h.heap.top, h.heap.room, h.heap.short)

  pub room-told : (long_enough s n ≡ true) ↔ HasRoom blocks n
  unfolding long_enough
  room-told = (
    λ k. walk-room s n (blockptr s) false blocks h.heap.walk near (rw (stored-frees s blocks ring h) at k),
    λ k. rw (stored-frees s blocks ring h) (room-walk s n (blockptr s) false blocks h.heap.walk near k),
  )
