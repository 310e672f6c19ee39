-- Every array word among the cells of the view stands in a cell that test 17 looks at, so it names an array.
use Prim.Native.Nat.{ℕ, suc, ◌+◌, ◌-◌, ◌%◌, ◌^◌, ◌<◌, ◌≤◌}
use mathlib.Core.Path.{◌≡◌, sym, ◌∙◌, ap}
use mathlib.Core.Bool.{false}
use mathlib.Core.List.{List, [], ◌∷◌, ◌++◌}
use mathlib.Core.Logic.{inl, inr}
use native.Mathlib.Omega.{arith}
use lib.ListN.{get_or}
use Rattle.descriptor.specs.Fields.{array_word}
use Rattle.descriptor.specs.Kinds.{segment, is_scalar, scalar_kind}
use Rattle.descriptor.specs.declared.Kind.TheVariants as K
use Rattle.descriptor.proofs.Inverse.{inverse}
use Rattle.segment.specs.State.{sbase, ltop, lbase, blockptr}
use Rattle.segment.specs.Blocks.{part}
use Rattle.segment.specs.Stack.{stack_at, last_lbase_at, downward}
use Rattle.storage.specs.Heap.{count}
use Rattle.storage_theorems.proofs.Counts.{count-append}
use Rattle.segment.specs.Machine.{cells_of_frames}
use Rattle.segment.specs.View.{frames_from, words, owners}
use Rattle.descriptor.proofs.Truth.{by_le}
use Rattle.acceptance_storage.proofs.Tests.{never}
use Rattle.acceptance.specs.Structure.{FrameChain, frame_start, locals_start, Direct, DirectOrIndirect, FrameCells, StackCells}
use Rattle.acceptance.proofs.Tallies.{downward-count, cells-bottom, cells-on}
use Rattle.acceptance.proofs.Positions.{downward-at}

-- An array's word is no scalar, not undefined and not indirect.
no-scalar : (x : ℕ) → x < 2 ^ 16 → is_scalar (array_word x) ≡ false
unfolding is_scalar
no-scalar x l = ap scalar_kind (inverse.read_back (K.Array (segment x)) l)

module _ (A : ℕ → Type 0) (x : ℕ) (l : x < 2 ^ 16) {w : ℕ} (e : w ≡ array_word x) where
  pub direct-names : Direct A w → A x
  direct-names (inl k) = absurd (never (sym (no-scalar x l) ∙ rw e at k))
  direct-names (inr (inl k)) = absurd (omega (arith, e, k))
  direct-names (inr (inr k)) = let z : w % 2 ^ 16 ≡ x = omega (arith, e) in rw z at k.1

  pub either-names : {s regular alternate frames : List ℕ} → DirectOrIndirect A s regular alternate frames w → A x
  either-names (inl d) = direct-names d
  either-names (inr (inl g)) = absurd (omega (arith, e, g.word))
  either-names (inr (inr g)) = absurd (omega (arith, e, g.word))

pub first_frame : (A : ℕ → Type 0) (older : List ℕ) {s regular alternate : List ℕ} {base top : ℕ} → StackCells A s regular alternate base top older → FrameCells A s regular alternate base top older
first_frame A [] h = h
first_frame A (next ∷ older) h = h.0

module _ (A : ℕ → Type 0) (s regular alternate : List ℕ) (x : ℕ) (small : x < 2 ^ 16) where
  -- the variables of a frame, and its temporaries
  variables-name : (base top : ℕ) (older : List ℕ) → FrameCells A s regular alternate base top older
      → (i : ℕ) → frame_start s regular alternate base ≤ i → i < base → stack_at s i ≡ array_word x → A x
  variables-name base top older h i l u e =
      by_le (locals_start s regular alternate base) i (λ m. direct-names A x small e (h.locals i m u)) (λ m. either-names A x small e (h.arguments i l m))

  pub temporaries-name : (base top : ℕ) (older : List ℕ) → FrameCells A s regular alternate base top older
      → 0 < count (array_word x) (downward s (sbase s + base + 2) (top - (base + 2))) → A x
  temporaries-name base top older h k =
      let r = downward-at (array_word x) s (sbase s + base + 2) (top - (base + 2)) k in
      let e : sbase s + (r.0 - sbase s) ≡ r.0 = omega (arith, r.1) in
      either-names A x small (rw e r.3) (h.temporaries (r.0 - sbase s) (omega (arith, r.1)) (omega (arith, r.2)))

  pub frames-name : (older : List ℕ) (n base top : ℕ) → base < n → FrameChain s regular alternate base older → StackCells A s regular alternate base top older
      → 0 < count (array_word x) (cells_of_frames (frames_from n s base)) → A x
  frames-name [] n base top l h t k =
      let c : 0 < count (array_word x) (downward s (sbase s) base)
      = omega (arith, rw (cells-bottom s base n (omega arith) (omega (arith, h.itself))) at k, count-append (array_word x) (downward s (sbase s) base) []) in
      let r = downward-at (array_word x) s (sbase s) base c in
      let e : sbase s + (r.0 - sbase s) ≡ r.0 = omega (arith, r.1) in
      variables-name base top [] t (r.0 - sbase s) (omega (arith, h.start)) (omega (arith, r.2)) (rw e r.3)
  frames-name (next ∷ older) n base top l h t k =
      by_le 1 (count (array_word x) (downward s (sbase s + (last_lbase_at s base + 2)) (base - (last_lbase_at s base + 2)))) here
      (λ m. frames-name older (n - 1) next (frame_start s regular alternate base) (omega (arith, h.0.start)) h.1 t.1 (rw h.0.last at (rest m)))
    where
      all : count (array_word x) (cells_of_frames (frames_from n s base))
          ≡ count (array_word x) (downward s (sbase s + (last_lbase_at s base + 2)) (base - (last_lbase_at s base + 2)))
          + count (array_word x) (cells_of_frames (frames_from (n - 1) s (last_lbase_at s base)))
      all = rw (cells-on s base n (omega arith) (omega (arith, h.0.last, h.0.start)))
          (count-append (array_word x) (downward s (sbase s + (last_lbase_at s base + 2)) (base - (last_lbase_at s base + 2))) (cells_of_frames (frames_from (n - 1) s (last_lbase_at s base))))

      here : 0 < count (array_word x) (downward s (sbase s + (last_lbase_at s base + 2)) (base - (last_lbase_at s base + 2))) → A x
      here m =
          let r = downward-at (array_word x) s (sbase s + (last_lbase_at s base + 2)) (base - (last_lbase_at s base + 2)) m in
          let e : sbase s + (r.0 - sbase s) ≡ r.0 = omega (arith, r.1) in
          by_le (frame_start s regular alternate base) (r.0 - sbase s)
          (λ d. variables-name base top (next ∷ older) t.0 (r.0 - sbase s) d (omega (arith, r.2)) (rw e r.3))
          (λ d. either-names A x small (rw e r.3) ((first_frame A older t.1).temporaries (r.0 - sbase s) (omega (arith, r.1, h.0.last)) d))

      rest : count (array_word x) (downward s (sbase s + (last_lbase_at s base + 2)) (base - (last_lbase_at s base + 2))) < 1
          → 0 < count (array_word x) (cells_of_frames (frames_from (n - 1) s (last_lbase_at s base)))
      rest m = omega (arith, m, k, all)

  pub owners-name : (older : List ℕ) → FrameChain s regular alternate (lbase s) older → StackCells A s regular alternate (lbase s) (ltop s + 1) older
      → ((i : ℕ) → 8 ≤ i → i < blockptr s → Direct A (get_or s i 0)) → 0 < count (array_word x) (owners s) → A x
  unfolding words
  owners-name older h t g k =
      by_le 1 (count (array_word x) (downward s (sbase s + lbase s + 2) (ltop s - (lbase s + 1))))
      (λ m. let z : ltop s - (lbase s + 1) ≡ ltop s + 1 - (lbase s + 2) = omega arith in temporaries-name (lbase s) (ltop s + 1) older (first_frame A older t) (rw z at m))
      (λ m. by_le 1 (count (array_word x) (cells_of_frames (frames_from (suc (lbase s)) s (lbase s))))
      (λ d. frames-name older (suc (lbase s)) (lbase s) (ltop s + 1) (omega arith) h t d)
      (λ d. global (omega (
        arith,
        k,
        m,
        d,
        count-append (array_word x) (downward s (sbase s + lbase s + 2) (ltop s - (lbase s + 1))) (cells_of_frames (frames_from (suc (lbase s)) s (lbase s)) ++ part s 8 (blockptr s - 8)),
        count-append (array_word x) (cells_of_frames (frames_from (suc (lbase s)) s (lbase s))) (part s 8 (blockptr s - 8)),
      ))))
    where
      global : 0 < count (array_word x) (part s 8 (blockptr s - 8)) → A x
      global m =
          let r = downward-at (array_word x) s 8 (blockptr s - 8) (omega (arith, m, downward-count (array_word x) s 8 (blockptr s - 8))) in
          direct-names A x small r.3 (g r.0 r.1 (omega (arith, r.2, r.1)))
