-- Test 17 by what the code has in hand: the frames from the current one down to the bottom one, and all cells.
use Prim.Native.Nat.{ℕ, ◌+◌, ◌-◌, ◌<◌, ◌≤◌}
use mathlib.Core.Path.{◌≡◌, refl, sym, ◌∙◌, ap}
use mathlib.Core.Bool.{Bool, true, false}
use mathlib.Core.List.{List, []}
use native.Mathlib.Omega.{arith}
use lib.ListN.{length}
use Rattle.segment.specs.State.{ltop, lbase, blockptr}
use Rattle.segment.specs.Stack.{last_lbase_at, code_word_at}
use Rattle.segment.specs.Blocks.{part}
use Rattle.segment.specs.View.{owners}
use Rattle.acceptance_storage.specs.Marks.{Tally}
use Rattle.acceptance.specs.declared.frames.Frame.{Frame}
use Rattle.acceptance.specs.Frames.{arguments, variables, FrameAt}
use Rattle.acceptance.specs.Cells.{in_table, plain_cell, range, variables_from, frame_cells, cells_from, cells_test}
use Rattle.acceptance.specs.Tables.{CanRise, lacking, Met, chain_variables, stack_test, cells_of_stack}
use Rattle.acceptance.specs.Before.{BeforeCells, BeforeStack, BeforeFrame}
use Rattle.acceptance.proofs.Chain.{chain_from, few-arguments, low-enough, at-bottom, above, long}
use Rattle.acceptance.proofs.FrameCells.{Lent, Ran, FrameRan, lent, lent_length, cells-none, own-marked, frame-alike, frame-fails, frame-bottom, frame_on}
use Rattle.acceptance.proofs.FrameCells.{older-marked, globals-fail, globals-pass}
use Rattle.acceptance.proofs.Tallies.{Down, down-start, down-bottom, down-on, owners-met}
use Rattle.acceptance.proofs.Compared.{marks-few}
use Rattle.acceptance.proofs.Table.{frames-top}

-- ---- the frames, from the one at `from` down

pub record Descent (s regular alternate : List ℕ) (from upto : ℕ) (before arrays marks : List ℕ) (base top left : ℕ) : Type 0 where
  pub over : base + 2 ≤ top
  pub below : top ≤ upto
  pub chain : chain_from left s regular alternate base ≡ true
  pub marked : Tally marks (variables_from left (variables regular alternate) s base)
  pub same : stack_test s regular alternate (in_table before) from upto
      ≡ cells_from left (arguments regular alternate) (variables regular alternate) s (in_table before) base top
  pub met : Down s from upto before arrays base top

pub descent-start : {s regular alternate arrays marks : List ℕ} {from upto : ℕ} → BeforeStack s regular alternate arrays marks from upto
    → {left : ℕ} → left ≡ length s → Descent s regular alternate from upto arrays arrays marks from upto left
descent-start {s} {arrays = arrays} {from = from} {upto = upto} g all = rw all (record {
  over = g.over;
  below = omega arith;
  chain = g.chain;
  marked = g.variables;
  same = refl;
  met = down-start s from upto arrays g.room;
})

module _ {s regular alternate before marks₀ : List ℕ} {from upto : ℕ} (g : BeforeStack s regular alternate before marks₀ from upto)
    {arrays marks : List ℕ} {base top left : ℕ} (d : Descent s regular alternate from upto before arrays marks base top left) where
  pub descent-none : left ≤ 0 → stack_test s regular alternate (in_table before) from upto ≡ false
  descent-none z = d.same ∙ cells-none (arguments regular alternate) (variables regular alternate) s (in_table before) base top left z

  module _ (more : 0 < left) {at : ℕ} (here : at ≡ base) {frame : Frame} (f : FrameAt s regular alternate at frame) where
    read : FrameAt s regular alternate base frame
    read = rw here at f

    pub descent-low : frame.variables ≤ base
    descent-low = low-enough s regular alternate base left more read d.chain

    start_is : base - frame.variables ≡ base - variables regular alternate (code_word_at s base)
    start_is = ap (λ (n : ℕ). base - n) read.variables

    pub descent-frame : BeforeFrame s arrays marks frame.arguments (base - frame.variables) base top
    descent-frame = record {
      arguments = omega (arith, few-arguments s regular alternate base left more read d.chain, descent-low);
      over = d.over;
      inside = omega (arith, g.inside, d.below);
      longest = g.longest;
      variables = own-marked (arguments regular alternate) (variables regular alternate) s (in_table before) base top left more start_is
          read.arguments read.last marks d.marked;
      room = d.met.room;
    }

    module _ {arrays' marks' : List ℕ} {r : Bool} (ran : FrameRan s arrays marks frame.arguments (base - frame.variables) base top arrays' marks' r) where
      judged : r ≡ frame_cells s (in_table before) (in_table marks) (lacking marks (range (base - frame.variables) (base - (base - frame.variables))))
          frame.arguments (base - frame.variables) base top
      judged =
          ran.0
          ∙ frame-alike s (in_table before) (in_table arrays) (in_table marks) (lacking marks (range (base - frame.variables) (base - (base - frame.variables))))
          frame.arguments (base - frame.variables) base top d.met.same

      pub descent-fails : r ≡ false → stack_test s regular alternate (in_table before) from upto ≡ false
      descent-fails e =
          d.same
          ∙ frame-fails (arguments regular alternate) (variables regular alternate) s (in_table before) base top left more start_is
          read.arguments read.last marks d.marked judged e

      module _ (yes : r ≡ true) {last : ℕ} (l : last ≡ frame.last.0) where
        last-is : last ≡ last_lbase_at s base
        last-is = l ∙ read.last

        pub descent-bottom : base ≤ last
            → (true ≡ stack_test s regular alternate (in_table before) from upto) × (true ≡ true → Met before arrays' (cells_of_stack s from upto))
        descent-bottom low =
            let size = at-bottom s regular alternate base left more read d.chain (omega arith) in (
              sym (d.same
                  ∙ frame-bottom (arguments regular alternate) (variables regular alternate) s (in_table before) base top left more start_is
                  read.arguments last-is marks d.marked judged yes low),
              λ t. down-bottom d.met (base - frame.variables) last-is (ran.1.1.0 yes) (omega (arith, size)) low,
            )

        pub descent-on : last < base → {less : ℕ} → less ≡ left - 1 → Descent s regular alternate from upto before arrays' marks' last (base - frame.variables) less
        descent-on low fewer =
            let older = above s regular alternate base left more read d.chain (omega arith) in
            rw fewer (record {
              over = omega (arith, older.0);
              below = omega (arith, d.over, d.below);
              chain = rw l older.1;
              marked = older-marked (arguments regular alternate) (variables regular alternate) s (in_table before) base top left more start_is
                  read.arguments last-is marks d.marked (ran.1.0 yes) low;
              same = d.same
                  ∙ frame_on (arguments regular alternate) (variables regular alternate) s (in_table before) base top left more start_is
                  read.arguments last-is marks d.marked judged yes low;
              met = down-on d.met (base - frame.variables) last-is (ran.1.1.0 yes) (omega (arith, older.0)) (omega arith) (ran.1.1.1 yes);
            })

-- ---- all cells: the globals, up to the block at `end`, and then the stack

module _ {s regular alternate arrays marks : List ℕ} (h : BeforeCells s regular alternate arrays marks) {end : ℕ} (z : end ≡ blockptr s) where
  globals-are : Lent s 8 end ≡ part s 8 (blockptr s - 8)
  globals-are = lent s 8 end 8 (blockptr s - 8) refl (omega (arith, h.head.low)) (omega (arith, h.head.room, h.head.top))

  globals-number : length (Lent s 8 end) ≡ end - 8
  globals-number = lent_length s 8 end (omega (arith, h.head.low)) (omega (arith, h.head.room, h.head.top))

  pub globals-room : CanRise arrays (length (Lent s 8 end))
  globals-room x = omega (arith, h.head.room, h.head.top, h.longest, marks-few s arrays h.array_marks x, globals-number)

  module _ {after : List ℕ} {r : Bool} (ran : Ran (plain_cell (in_table arrays)) arrays after (Lent s 8 end) r) where
    pub globals-wrong : r ≡ false → cells_test s regular alternate ≡ false
    globals-wrong e = globals-fail s regular alternate arrays h.array_marks globals-are (sym ran.0 ∙ e)

    module _ (yes : r ≡ true) {base : ℕ} (b : base ≡ lbase s) where
      top-over : lbase s + 1 ≤ ltop s
      top-over = frames-top s regular alternate h.frames

      pub base-low : (base < 16384) × (base ≤ length marks) × Tally marks []
      base-low = (
        omega (arith, top-over, h.head.top, h.longest),
        omega (arith, top-over, h.head.top, h.clear.long),
        h.clear.empty,
      )

      module _ {first : ℕ} (e : first ≡ base) {top : ℕ} (t : top ≡ ltop s) where
        pub before-stack : {marks' : List ℕ} → Tally marks' (chain_variables s regular alternate base)
            → BeforeStack s regular alternate after marks' first (top + 1)
        before-stack v = record {
          over = omega (arith, top-over);
          inside = omega (arith, h.head.top);
          longest = h.longest;
          chain = sym (long s regular alternate (e ∙ b) t (omega (arith, top-over))) ∙ h.frames;
          variables = rw e v;
          room = λ x. omega (arith, h.head.room, h.head.top, h.longest, marks-few s arrays h.array_marks x, globals-number, ran.1.1 yes x);
        }

        pub all-cells : {after' : List ℕ} {r' : Bool}
            → (r' ≡ stack_test s regular alternate (in_table after) first (top + 1)) × (r' ≡ true → Met after after' (cells_of_stack s first (top + 1)))
            → (r' ≡ cells_test s regular alternate) × (r' ≡ true → Met arrays after' (owners s))
        all-cells q = (
          rw (e ∙ b, t) at q.0 ∙ sym (globals-pass s regular alternate arrays h.array_marks globals-are (sym ran.0 ∙ yes) (ran.1.0 yes)),
          λ w. owners-met s (rw globals-are at (ran.1.0 yes)) (rw (e ∙ b, t) at (q.1 w)),
        )
