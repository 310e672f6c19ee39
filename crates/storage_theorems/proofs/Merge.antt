-- The last two steps of a release that joins the block behind: the merged block is marked free, and ROVER leaves the block that
-- vanished for it.
use Prim.Native.Nat.{ℕ, ◌+◌, ◌-◌, ◌/◌, ◌%◌, ◌^◌, ◌<◌, ◌≤◌}
use mathlib.Core.Path.{◌≡◌, sym, ◌∙◌, ap}
use mathlib.Core.List.{List}
use mathlib.Core.Logic.{◌≢◌, ◌⊎◌, inl, inr, ⊎_elim}
use native.Mathlib.Omega.{arith}
use lib.ListN.{get_or, length}
use Rattle.segment.specs.State.{rover}
use Rattle.storage.specs.Ring.{mark_free, move_rover}
use Rattle.storage_theorems.proofs.Counts.{hit-cases}
use Rattle.storage_theorems.proofs.Fields.{mark_free-length, mark_free-other, mark_free-first, mark_free-end, move_rover-length, move_rover-other, move_rover-base, move_rover-moves}

-- a free block of `n` words at `p`, in which the one at `q` vanished
abbrev pub merged : List ℕ → ℕ → ℕ → ℕ → List ℕ
merged s1 p n q = move_rover (mark_free s1 p n) q p

module _ (s s1 : List ℕ) (p n q : ℕ) (long : length s1 ≡ length s) (at : (8 ≤ p) × (3 ≤ n) × (p + n ≤ length s) × (length s ≤ 16384)) where
  pub merged-length : length (merged s1 p n q) ≡ length s
  merged-length = move_rover-length (mark_free s1 p n) q p ∙ mark_free-length s1 p n ∙ long

  pub merged-other : (i : ℕ) → (i ≢ 1) × (i ≢ p) × (i ≢ p + n - 1) → get_or (merged s1 p n q) i 0 ≡ get_or s1 i 0
  merged-other i w = move_rover-other (mark_free s1 p n) q p i w.0 ∙ mark_free-other s1 p n i (w.1, w.2)

  pub merged-first : get_or (merged s1 p n q) p 0 ≡ 2 ^ 31 + n
  merged-first =
      move_rover-other (mark_free s1 p n) q p p (omega (arith, at)) ∙ mark_free-first s1 p n (omega (arith, at)) (omega (arith, at, long))

  pub merged-end : get_or (merged s1 p n q) (p + n - 1) 0 ≡ n
  merged-end =
      move_rover-other (mark_free s1 p n) q p (p + n - 1) (omega (arith, at)) ∙ mark_free-end s1 p n (omega (arith, at)) (omega (arith, at, long))

  module _ (same : get_or s1 1 0 ≡ get_or s 1 0) where
    marked-same : get_or (mark_free s1 p n) 1 0 ≡ get_or s 1 0
    marked-same = mark_free-other s1 p n 1 (omega (arith, at)) ∙ same

    marked-room : 1 < length (mark_free s1 p n)
    marked-room = omega (arith, at, mark_free-length s1 p n, long)

    pub merged-base : get_or (merged s1 p n q) 1 0 / 2 ^ 16 ≡ get_or s 1 0 / 2 ^ 16
    merged-base = move_rover-base (mark_free s1 p n) q p marked-room (omega (arith, at)) ∙ ap (λ (w : ℕ). w / 2 ^ 16) marked-same

    -- ROVER moves exactly where it stood on the vanished block
    pub merged-moves : (rover s ≡ q → rover (merged s1 p n q) ≡ p) × (rover s ≢ q → rover (merged s1 p n q) ≡ rover s)
    merged-moves =
        let r = move_rover-moves (mark_free s1 p n) q p marked-room (omega (arith, at)) in
        let e : rover (mark_free s1 p n) ≡ rover s = ap (λ (w : ℕ). w % 2 ^ 16) marked-same in
        (λ o. r.0 (e ∙ o), λ o. r.1 (λ w. o (sym e ∙ w)) ∙ e)

    pub merged-rover : (rover (merged s1 p n q) ≡ p) ⊎ ((rover s ≢ q) × (rover (merged s1 p n q) ≡ rover s))
    merged-rover = ⊎_elim (λ e. inl (merged-moves.0 e.0)) (λ e. inr (e.0, merged-moves.1 e.0)) (hit-cases (rover s) q)
