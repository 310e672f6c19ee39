-- The cells of the frames, and all cells, met from the current frame down: what was met and what is left make up the whole.
use Prim.Native.Nat.{ℕ, zero, suc, ◌+◌, ◌-◌, ◌<◌, ◌≤◌, ◌^◌}
use mathlib.Core.Path.{◌≡◌, refl, ◌∙◌, ap}
use mathlib.Core.Bool.{cond}
use mathlib.Core.List.{List, [], ◌∷◌, ◌++◌}
use native.Mathlib.Omega.{arith}
use lib.ListN.{get_or}
use lib.Dec.{leb}
use borrow.Author.Tests.{le-leb, lt-leb}
use Rattle.descriptor.specs.Fields.{array_word}
use Rattle.segment.specs.State.{sbase, ltop, lbase, blockptr}
use Rattle.segment.specs.Blocks.{part}
use Rattle.segment.specs.Stack.{last_lbase_at, downward}
use Rattle.storage.specs.Heap.{hit, count}
use Rattle.storage_theorems.proofs.Counts.{count-append}
use Rattle.segment.specs.Machine.{cells_of_frames}
use Rattle.segment.specs.View.{frame_at, frames_from, words, owners}
use Rattle.acceptance.specs.Tables.{CanRise, Met, temporaries_of, cells_of_frame, cells_of_stack}
use Rattle.acceptance.proofs.Meeting.{met-then, still_marked}

-- Words one after the other, in two parts.
pub part_join : (s : List ℕ) (a m n : ℕ) → part s a m ++ part s (a + m) n ≡ part s a (m + n)
part_join s a zero n = let e : a + 0 ≡ a = omega arith in let k : 0 + n ≡ n = omega arith in rw (e, k)
part_join s a (suc m) n =
    let e : a + suc m ≡ a + 1 + m = omega arith in
    let k : suc m + n ≡ suc (m + n) = omega arith in
    rw (e, k) (ap (λ (l : List ℕ). get_or s a 0 ∷ l) (part_join s (a + 1) m n))

parts : (w : ℕ) (s : List ℕ) (a m n : ℕ) → count w (part s a (m + n)) ≡ count w (part s a m) + count w (part s (a + m) n)
parts w s a m n = rw (← part_join s a m n) (count-append w (part s a m) (part s (a + m) n))

-- From the highest down, and from the lowest up: the same words.
part-last : (w : ℕ) (s : List ℕ) (a n : ℕ) → count w (part s a (suc n)) ≡ count w (part s a n) + hit w (get_or s (a + n) 0)
part-last w s a zero = let e : a + 0 ≡ a = omega arith in rw e (omega arith)
part-last w s a (suc n) = let e : a + 1 + n ≡ a + suc n = omega arith in omega (arith, rw e at (part-last w s (a + 1) n))

pub downward-count : (w : ℕ) (s : List ℕ) (a n : ℕ) → count w (downward s a n) ≡ count w (part s a n)
downward-count w s a zero = refl
downward-count w s a (suc n) = omega (arith, downward-count w s a n, part-last w s a n)

-- The cells of the frames from the one at `base` down.
module _ (s : List ℕ) (base n : ℕ) (pos : 0 < n) where
  frames-step : frames_from n s base
      ≡ cond (leb base (last_lbase_at s base)) (frame_at s base 0 ∷ []) (frame_at s base (last_lbase_at s base + 2) ∷ frames_from (n - 1) s (last_lbase_at s base))
  unfolding frames_from
  frames-step = go n pos
    where
      go : (n : ℕ) → 0 < n → frames_from n s base
          ≡ cond (leb base (last_lbase_at s base)) (frame_at s base 0 ∷ []) (frame_at s base (last_lbase_at s base + 2) ∷ frames_from (n - 1) s (last_lbase_at s base))
      go zero h = absurd (omega arith)
      go (suc n) h = let e : suc n - 1 ≡ n = omega arith in rw e

  pub cells-bottom : base ≤ last_lbase_at s base → cells_of_frames (frames_from n s base) ≡ downward s (sbase s) base ++ []
  cells-bottom h =
      let a : sbase s + 0 ≡ sbase s = omega arith in
      let b : base - 0 ≡ base = omega arith in
      let e : frames_from n s base ≡ frame_at s base 0 ∷ [] = frames-step ∙ simp (le-leb base (last_lbase_at s base) h) in
      ap cells_of_frames e ∙ rw (a, b)

  pub cells-on : last_lbase_at s base < base → cells_of_frames (frames_from n s base)
      ≡ downward s (sbase s + (last_lbase_at s base + 2)) (base - (last_lbase_at s base + 2)) ++ cells_of_frames (frames_from (n - 1) s (last_lbase_at s base))
  cells-on h =
      let e : frames_from n s base ≡ frame_at s base (last_lbase_at s base + 2) ∷ frames_from (n - 1) s (last_lbase_at s base)
      = frames-step ∙ simp (lt-leb base (last_lbase_at s base) h) in
      ap cells_of_frames e

-- The loop from the frame at `from` down: `before` is its first table, `table` the one at `base`.
pub record Down (s : List ℕ) (from upto : ℕ) (before table : List ℕ) (base top : ℕ) : Type 0 where
  pub depth : ℕ
  pub fuel : base < depth
  pub room : CanRise table top
  pub same : (x : ℕ) → leb 1 (get_or table x 0) ≡ leb 1 (get_or before x 0)
  pub sum : (x : ℕ) → x < 2 ^ 16 → 1 ≤ get_or before x 0
      → get_or table x 0 + (count (array_word x) (temporaries_of s base top) + count (array_word x) (cells_of_frames (frames_from depth s base)))
      ≡ get_or before x 0 + (count (array_word x) (temporaries_of s from upto) + count (array_word x) (cells_of_frames (frames_from (suc from) s from)))

pub down-start : (s : List ℕ) (from upto : ℕ) (table : List ℕ) → CanRise table upto → Down s from upto table table from upto
down-start s from upto table r = record { depth = suc from; fuel = omega arith; room = r; same = λ x. refl; sum = λ x l j. refl }

module _ {s : List ℕ} {from upto : ℕ} {before table : List ℕ} {base top : ℕ} (h : Down s from upto before table base top)
    (start : ℕ) {last : ℕ} (el : last ≡ last_lbase_at s base) {after : List ℕ} (m : Met table after (cells_of_frame s start base top)) where
  pos : 0 < h.depth
  pos = omega (arith, h.fuel)

  more : (x : ℕ) → x < 2 ^ 16 → 1 ≤ get_or before x 0 → get_or after x 0
      ≡ get_or table x 0 + (count (array_word x) (temporaries_of s base top) + count (array_word x) (part s (sbase s + start) (base - start)))
  more x l j =
      m.sum x l (still_marked before table h.same x j)
      ∙ ap (λ (n : ℕ). get_or table x 0 + n) (count-append (array_word x) (temporaries_of s base top) (part s (sbase s + start) (base - start)))

  pub down-bottom : start ≡ 0 → base ≤ last → Met before after (cells_of_stack s from upto)
  down-bottom z l = record { same = λ x. m.same x ∙ h.same x; sum = total }
    where
      all : (w : ℕ) → count w (cells_of_frames (frames_from h.depth s base)) ≡ count w (part s (sbase s + start) (base - start))
      all w =
          let a : sbase s + start ≡ sbase s = omega (arith, z) in
          let b : base - start ≡ base = omega (arith, z) in
          rw (cells-bottom s base h.depth pos (rw el at l), a, b)
          (omega (arith, count-append w (downward s (sbase s) base) [], downward-count w s (sbase s) base))

      total : (x : ℕ) → x < 2 ^ 16 → 1 ≤ get_or before x 0 → get_or after x 0
          ≡ get_or before x 0 + count (array_word x) (cells_of_stack s from upto)
      total x u j = omega (
        arith,
        more x u j,
        all (array_word x),
        h.sum x u j,
        count-append (array_word x) (temporaries_of s from upto) (cells_of_frames (frames_from (suc from) s from)),
      )

  pub down-on : last + 2 ≤ start → start ≤ base → CanRise after start → Down s from upto before after last start
  down-on l k r = record {
    depth = h.depth - 1;
    fuel = omega (arith, h.fuel);
    room = r;
    same = λ x. m.same x ∙ h.same x;
    sum = λ x u j. omega (arith, more x u j, all (array_word x), h.sum x u j);
  }
    where
      all : (w : ℕ) → count w (cells_of_frames (frames_from h.depth s base))
          ≡ count w (temporaries_of s last start) + count w (part s (sbase s + start) (base - start)) + count w (cells_of_frames (frames_from (h.depth - 1) s last))
      all w =
          let a : sbase s + (last + 2) ≡ sbase s + last + 2 = omega arith in
          let b : base - (last + 2) ≡ start - (last + 2) + (base - start) = omega arith in
          let d : sbase s + last + 2 + (start - (last + 2)) ≡ sbase s + start = omega arith in
          let q : count w (part s (sbase s + (last + 2)) (base - (last + 2))) ≡ count w (part s (sbase s + last + 2) (start - (last + 2) + (base - start))) = rw (a, b) in
          let c : cells_of_frames (frames_from h.depth s base) ≡ downward s (sbase s + (last + 2)) (base - (last + 2)) ++ cells_of_frames (frames_from (h.depth - 1) s last)
          = rw el (cells-on s base h.depth pos (omega (arith, el))) in
          rw c
          (omega (
            arith,
            count-append w (downward s (sbase s + (last + 2)) (base - (last + 2))) (cells_of_frames (frames_from (h.depth - 1) s last)),
            downward-count w s (sbase s + (last + 2)) (base - (last + 2)),
            q,
            rw d at (parts w s (sbase s + last + 2) (start - (last + 2)) (base - start)),
          ))

-- All cells: the globals, the temporaries, the frames' cells.
pub owners-met : (s : List ℕ) {before between after : List ℕ} → Met before between (part s 8 (blockptr s - 8))
    → Met between after (cells_of_stack s (lbase s) (ltop s + 1))
    → Met before after (owners s)
unfolding words
owners-met s {before} {between} {after} h k =
    let e : ltop s + 1 - (lbase s + 2) ≡ ltop s - (lbase s + 1) = omega arith in
    let m = met-then h (rw e at k) in
    record {
      same = m.same;
      sum = λ x l j. omega (
        arith,
        m.sum x l j,
        downward-count (array_word x) s (sbase s + lbase s + 2) (ltop s - (lbase s + 1)),
        count-append (array_word x) (downward s (sbase s + lbase s + 2) (ltop s - (lbase s + 1))) (cells_of_frames (frames_from (suc (lbase s)) s (lbase s)) ++ part s 8 (blockptr s - 8)),
        count-append (array_word x) (cells_of_frames (frames_from (suc (lbase s)) s (lbase s))) (part s 8 (blockptr s - 8)),
        count-append (array_word x) (part s 8 (blockptr s - 8)) (part s (sbase s + lbase s + 2) (ltop s - (lbase s + 1)) ++ cells_of_frames (frames_from (suc (lbase s)) s (lbase s))),
        count-append (array_word x) (part s (sbase s + lbase s + 2) (ltop s - (lbase s + 1))) (cells_of_frames (frames_from (suc (lbase s)) s (lbase s))),
      );
    }
