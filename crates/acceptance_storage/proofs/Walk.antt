-- The loop of the walk: what it has marked and what is left make up the whole.
use Prim.Native.Nat.{ℕ, ◌+◌, ◌-◌, ◌^◌, ◌<◌, ◌≤◌}
use mathlib.Core.Path.{◌≡◌, refl, sym, ◌∙◌, ap, ap₂}
use mathlib.Core.Bool.{Bool, true, false, cond, ◌&&◌, and-true, and-false}
use mathlib.Core.List.{List}
use native.Mathlib.Omega.{arith}
use lib.ListN.{get_or, set, length, length-set}
use lib.Dec.{eqb}
use borrow.Author.Tests.{eq-eqb, ne_eqb}
use Rattle.segment.specs.State.{sbase, blockptr}
use Rattle.segment.specs.Blocks.{free_at, size_at, span_at, dummy}
use Rattle.storage.specs.Heap.{count, prev_free_bit}
use Rattle.std.proofs.Common.{Some, None}
use Rattle.acceptance_storage.specs.Tests.{every}
use Rattle.acceptance_storage.specs.Head.{Head}
use Rattle.acceptance_storage.specs.Blocks.{block_span, walk_from, walk_test, starts_from, free_starts, array_starts, array_test, blocks_test}
use Rattle.acceptance_storage.specs.Marks.{Clear, BeforeWalk, Marked}
use Rattle.acceptance_storage.specs.Answer.{blocks_answer, inside_test}
use Rattle.acceptance_storage.proofs.Tests.{never, second-fails}
use Rattle.storage_theorems.proofs.Counts.{count-le}
use Rattle.acceptance_storage.proofs.Tallies.{raise-at}
use Rattle.acceptance_storage.proofs.Spans.{a_block}
use Rattle.acceptance_storage.proofs.Starts.{starts-few, starts-end, free-hit, free-miss, array-hit, array-miss, walk_end, walk-bad, walk-past, walk-on}

pub one_at_most : (b : Bool) → cond {A = ℕ} b 1 0 ≤ 1
one_at_most true = omega arith
one_at_most false = omega arith

-- the answers of test 14
module _ (s arrays frees : List ℕ) where
  pub improper : blocks_test s ≡ false → (None ≡ blocks_answer s) × (blocks_test s ≡ true → Marked s arrays frees)
  unfolding blocks_answer
  improper e = (simp e, λ t. absurd (never (sym e ∙ t)))

  pub sound : (found : ℕ) → blocks_test s ≡ true → found ≡ length (free_starts s) → Marked s arrays frees
      → (Some found ≡ blocks_answer s) × (blocks_test s ≡ true → Marked s arrays frees)
  unfolding blocks_answer
  sound found e n m = (rw n (simp e), λ t. m)

pub dummy-bad : (s : List ℕ) (end : ℕ) → end ≡ dummy s → (get_or s (end + 2) 0 ≡ 0 → ⊥) → blocks_test s ≡ false
unfolding blocks_test
dummy-bad s end e h = simp (ne_eqb (get_or s (dummy s + 2) 0) 0 (rw e at h), and-false (walk_test s))

-- a block that fits is stepped over by its SIZE and SLOP
pub steps : (s : List ℕ) (a : ℕ) (before : Bool) (end : ℕ) → (block_span s a before ≡ 0 → ⊥) → a + block_span s a before ≤ end → end < 2 ^ 16
    → span_at s a ≡ block_span s a before
steps s a before end h l m = let b = a_block s a before h (omega arith) in b.2.steps ∙ sym b.2.covers

pub record Walking (s arrays frees : List ℕ) (a : ℕ) (before : Bool) (found : ℕ) : Type 0 where
  pub left : ℕ
  pub few : left ≤ length s
  pub enough : dummy s < a + left
  pub near : a ≤ dummy s
  pub arrays_long : length s ≤ length arrays
  pub frees_long : length s ≤ length frees
  pub same : blocks_test s ≡ (walk_from left s a before (dummy s) && every (array_test s) (starts_from false left s a (dummy s)))
  pub number : found + length (starts_from true left s a (dummy s)) ≡ length (free_starts s)
  pub array_marks : (x : ℕ) → get_or arrays x 0 + count x (starts_from false left s a (dummy s)) ≡ count x (array_starts s)
  pub free_marks : (x : ℕ) → get_or frees x 0 + count x (starts_from true left s a (dummy s)) ≡ count x (free_starts s)

pub before-walk : {s arrays frees : List ℕ} → Head s → length s ≤ 16384 → Clear arrays (length s) → Clear frees (length s) → {from base : ℕ}
    → from ≡ blockptr s → base ≡ sbase s → get_or s (base - 3 + 2) 0 ≡ 0 → BeforeWalk s arrays frees from (base - 3)
before-walk h l p q e b z = record {
  first = e;
  dummy = ap (λ (n : ℕ). n - 3) b;
  order = omega (arith, h.room);
  inside = omega (arith, h.room, h.top);
  longest = l;
  last = z;
  array_table = p;
  free_table = q;
}

pub walking_start : {s arrays frees : List ℕ} {from end : ℕ} → BeforeWalk s arrays frees from end → Walking s arrays frees from false 0
unfolding blocks_test walk_test free_starts array_starts
walking_start {s} {arrays} {frees} g =
    rw g.first
    (record {
      left = length s;
      few = omega arith;
      enough = omega (arith, g.inside, g.dummy);
      near = omega (arith, g.first, g.order, g.dummy);
      arrays_long = g.array_table.long;
      frees_long = g.free_table.long;
      same = simp (eq-eqb (get_or s (dummy s + 2) 0) 0 (rw g.dummy at g.last), and-true);
      number = omega arith;
      array_marks = λ x. omega (arith, g.array_table.empty x);
      free_marks = λ x. omega (arith, g.free_table.empty x);
    })

module _ {s arrays₀ frees₀ : List ℕ} {from end : ℕ} (g : BeforeWalk s arrays₀ frees₀ from end) {arrays frees : List ℕ} {a : ℕ} {before : Bool} {found : ℕ}
    (h : Walking s arrays frees a before found) where
  pub walking-room : (get_or arrays a 0 < 65535) × (get_or frees a 0 < 65535)
  unfolding free_starts array_starts
  walking-room = (
    omega (arith, g.longest, h.array_marks a, count-le a (array_starts s), starts-few false s (dummy s) (length s) (blockptr s)),
    omega (arith, g.longest, h.free_marks a, count-le a (free_starts s), starts-few true s (dummy s) (length s) (blockptr s)),
  )

  pub walking-found : found ≤ length s
  unfolding free_starts
  walking-found = omega (arith, h.number, starts-few true s (dummy s) (length s) (blockptr s))

  some : 0 < h.left
  some = omega (arith, h.enough, h.near)

  -- at the dummy
  module _ (past : end ≤ a) {bit : ℕ} (b : bit ≡ prev_free_bit before) where
    at-end : a ≡ end
    at-end = omega (arith, g.dummy, h.near)

    over : dummy s ≤ a
    over = omega (arith, g.dummy)

    same_end : blocks_test s ≡ eqb (get_or s end 0) bit
    same_end =
        h.same
        ∙ rw (walk_end s a (dummy s) h.left some before (at-end ∙ g.dummy), starts-end s a (dummy s) h.left some false over, at-end, ← b)
        (and-true (eqb (get_or s end 0) bit))

    pub walking-no : (get_or s end 0 ≡ bit → ⊥) → blocks_test s ≡ false
    walking-no n = same_end ∙ ne_eqb _ _ n

    pub walking-yes : get_or s end 0 ≡ bit → (Some found ≡ blocks_answer s) × (blocks_test s ≡ true → Marked s arrays frees)
    walking-yes y =
        sound s arrays frees found (same_end ∙ eq-eqb _ _ y)
        (omega (arith, rw (starts-end s a (dummy s) h.left some true over) at h.number))
        (record {
          array_marks = λ x. omega (arith, rw (starts-end s a (dummy s) h.left some false over) at (h.array_marks x));
          free_marks = λ x. omega (arith, rw (starts-end s a (dummy s) h.left some true over) at (h.free_marks x));
        })

  -- at a block, which covers `span` words
  module _ (before-end : a < end) {span : ℕ} (covers : span ≡ block_span s a before) where
    low : a < dummy s
    low = omega (arith, g.dummy)

    on : a ≡ dummy s → ⊥
    on e = omega (arith, low)

    abbrev Arrays : List ℕ
    Arrays = starts_from false h.left s a (dummy s)

    abbrev Later : Bool → List ℕ
    Later free = starts_from free (h.left - 1) s (a + span) (dummy s)

    no_walk : walk_from h.left s a before (dummy s) ≡ false → blocks_test s ≡ false
    no_walk e = h.same ∙ ap (λ (b : Bool). b && every (array_test s) Arrays) e

    pub walking-bad : span ≡ 0 → blocks_test s ≡ false
    walking-bad z = no_walk (walk-bad s a (dummy s) h.left some before on (sym covers ∙ z))

    module _ (full : span ≡ 0 → ⊥) where
      proper-span : block_span s a before ≡ 0 → ⊥
      proper-span z = full (covers ∙ z)

      pub walking-past : end - a < span → blocks_test s ≡ false
      walking-past l = no_walk (walk-past s a (dummy s) h.left some before on proper-span (omega (arith, covers, g.dummy)))

      module _ (room : span ≤ end - a) where
        fits : a + block_span s a before ≤ dummy s
        fits = omega (arith, covers, g.dummy)

        stepped : span_at s a ≡ span
        stepped = steps s a before (dummy s) proper-span fits (omega (arith, g.dummy, g.inside, g.longest)) ∙ sym covers

        inside-segment : (a + 1 < length s) × (a + size_at s a ≤ length s)
        inside-segment = let e = stepped in (omega (arith, g.inside), omega (arith, g.inside))

        pub walking-fits : {block : ℕ} → block ≡ a → (block + 1 < length s) × (block + size_at s block ≤ length s)
        walking-fits at = rw at inside-segment

        -- what an array's inside says of the arrays that are left
        arrays-step : every (array_test s) Arrays ≡ (inside_test s a && every (array_test s) (Later false))
        arrays-step = rw (← stepped) (go (free_at s a) refl)
          where
            go : (f : Bool) → free_at s a ≡ f → every (array_test s) (starts_from false h.left s a (dummy s))
                ≡ (inside_test s a && every (array_test s) (starts_from false (h.left - 1) s (a + span_at s a) (dummy s)))
            go true f = ap (every (array_test s)) (array-miss s a (dummy s) h.left some low f) ∙ simp f
            go false f = ap (every (array_test s)) (array-hit s a (dummy s) h.left some low f) ∙ simp f

        module _ {block : ℕ} (at : block ≡ a) {r : Bool} (judged : r ≡ inside_test s block) where
          inside_is : {b : Bool} → r ≡ b → inside_test s a ≡ b
          inside_is e = sym (judged ∙ ap (inside_test s) at) ∙ e

          pub walking-inside : r ≡ false → blocks_test s ≡ false
          walking-inside e =
              h.same
              ∙ second-fails (walk_from h.left s a before (dummy s)) (arrays-step ∙ ap (λ (b : Bool). b && every (array_test s) (Later false)) (inside_is e))

          module _ (e : r ≡ true) where
            same-on : blocks_test s ≡ (walk_from (h.left - 1) s (a + span) (free_at s a) (dummy s) && every (array_test s) (Later false))
            same-on =
                h.same
                ∙ ap₂ ◌&&◌ (rw (← covers) at (walk-on s a (dummy s) h.left some before on proper-span fits))
                (arrays-step ∙ ap (λ (b : Bool). b && every (array_test s) (Later false)) (inside_is e))

            free_on : free_at s a ≡ true → Walking s arrays (set frees a (get_or frees a 0 + 1)) (a + span) true (found + 1)
            free_on f =
                let n = rw stepped at (free-hit s a (dummy s) h.left some low f) in
                let m = rw stepped at (array-miss s a (dummy s) h.left some low f) in
                record {
                  left = h.left - 1;
                  few = omega (arith, h.few);
                  enough = omega (arith, h.enough, full);
                  near = rw covers fits;
                  arrays_long = h.arrays_long;
                  frees_long = omega (arith, h.frees_long, length-set frees a (get_or frees a 0 + 1));
                  same = rw f at same-on;
                  number = omega (arith, rw n at h.number);
                  array_marks = λ x. rw m at (h.array_marks x);
                  free_marks = λ x. omega (arith, rw n at (h.free_marks x), raise-at frees a x (omega (arith, h.frees_long, low, g.dummy, g.inside)));
                }

            array-on : free_at s a ≡ false → Walking s (set arrays a (get_or arrays a 0 + 1)) frees (a + span) false found
            array-on f =
                let n = rw stepped at (free-miss s a (dummy s) h.left some low f) in
                let m = rw stepped at (array-hit s a (dummy s) h.left some low f) in
                record {
                  left = h.left - 1;
                  few = omega (arith, h.few);
                  enough = omega (arith, h.enough, full);
                  near = rw covers fits;
                  arrays_long = omega (arith, h.arrays_long, length-set arrays a (get_or arrays a 0 + 1));
                  frees_long = h.frees_long;
                  same = rw f at same-on;
                  number = rw n at h.number;
                  array_marks = λ x. omega (arith, rw m at (h.array_marks x), raise-at arrays a x (omega (arith, h.arrays_long, low, g.dummy, g.inside)));
                  free_marks = λ x. rw n at (h.free_marks x);
                }

            marked : (free : Bool) → free_at s a ≡ free
                → Walking s (cond free arrays (set arrays a (get_or arrays a 0 + 1))) (cond free (set frees a (get_or frees a 0 + 1)) frees)
                (a + span) free (found + cond free 1 0)
            marked true f = free_on f
            marked false f = let e : found + 0 ≡ found = omega arith in rw e (array-on f)

            pub walking_on : {free : Bool} → free ≡ free_at s block → {arrays' frees' : List ℕ} {more : ℕ} → more ≡ cond free 1 0
                → arrays' ≡ cond free arrays (set arrays a (get_or arrays a 0 + 1)) → frees' ≡ cond free (set frees a (get_or frees a 0 + 1)) frees
                → Walking s arrays' frees' (a + span) free (found + more)
            walking_on {free} f m p q = rw (m, p, q) (marked free (sym (f ∙ ap (free_at s) at)))
