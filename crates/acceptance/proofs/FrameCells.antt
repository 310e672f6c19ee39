-- Test 17 frame by frame: a table that says which variables are marked answers as the list of them does.
use Prim.Native.Nat.{ℕ, zero, suc, ◌+◌, ◌-◌, ◌<◌, ◌≤◌}
use mathlib.Core.Path.{◌≡◌, refl, sym, ◌∙◌, ap}
use mathlib.Core.Bool.{Bool, true, false, cond, ◌&&◌, false≢true}
use mathlib.Core.List.{List, []}
use mathlib.Core.Logic.{⊎_elim}
use native.Mathlib.Omega.{arith}
use native.Mathlib.Nat.{add-sub_cancel_left}
use lib.ListN.{get_or, length, take, drop, length-take, length-drop}
use lib.Dec.{leb}
use borrow.Author.Tests.{le-leb, lt-leb}
use Rattle.segment.specs.State.{sbase, ltop, lbase, blockptr}
use Rattle.segment.specs.Stack.{last_lbase_at, code_word_at}
use Rattle.segment.specs.Blocks.{part}
use Rattle.segment.proofs.Parts.{part-take}
use Rattle.storage.specs.Heap.{count}
use Rattle.storage_theorems.proofs.Counts.{order}
use Rattle.acceptance_storage.specs.Tests.{every, words_where}
use Rattle.acceptance_storage.proofs.Tests.{words-every}
use Rattle.acceptance_storage.specs.Blocks.{array_starts}
use Rattle.acceptance_storage.specs.Marks.{Tally}
use Rattle.acceptance.specs.Frames.{arguments, variables}
use Rattle.acceptance.specs.Cells.{range, in_table, in_list, direct, plain_cell, free_cell, variables_from, frame_cells, cells_from, cells_test}
use Rattle.acceptance.specs.Tables.{Gains, CanRise, lacking, Met, stack_test, temporaries_of, cells_of_frame, frame_test}
use Rattle.acceptance.specs.Before.{BeforeFrame}
use Rattle.acceptance.proofs.Meeting.{direct-alike, free-alike, met-then}
use Rattle.acceptance.proofs.Tallies.{part_join}
use Rattle.acceptance.proofs.VariableMarks.{variables-bottom, variables-on}

pub same-answers : (table l : List ℕ) → Tally table l → ◌≡◌ {A = ℕ → ℕ} (in_table table) (in_list l)
same-answers table l h = λ i. λ x. h x i

-- The table without the members of a list.
pub taken-away : (before after l : List ℕ) → Gains after before l → ◌≡◌ {A = ℕ → ℕ} (in_table after) (lacking before l)
taken-away before after l g = λ i. λ x. each x i
  where
    each : (x : ℕ) → in_table after x ≡ lacking before l x
    each x = omega (arith, g.sum x)

-- A run of cells that the code lends is a part of the segment, and its test that of the part's words.
pub lent : (s : List ℕ) (from to at n : ℕ) → from ≡ at → to ≡ at + n → to ≤ length s → take (to - from) (drop from s) ≡ part s at n
lent s from to at n e k l = rw (e, k, add-sub_cancel_left) (sym (part-take n s at (omega arith)))

pub lent_length : (s : List ℕ) (from to : ℕ) → from ≤ to → to ≤ length s → length (take (to - from) (drop from s)) ≡ to - from
lent_length s from to k l = simp (length-take, length-drop) (omega arith)

run : (test : ℕ → Bool) (s : List ℕ) (at n : ℕ) {l : List ℕ} → l ≡ part s at n → {b : Bool} → every test l ≡ b → words_where n test s at ≡ b
run test s at n p e = words-every n test s at ∙ rw p at e

every-alike : (f g : ℕ → Bool) → ((w : ℕ) → f w ≡ g w) → (l : List ℕ) → every f l ≡ every g l
every-alike f g e l = ap (λ (test : ℕ → Bool). every test l) (λ i. λ w. e w i)

words-alike : (f g : ℕ → Bool) → ((w : ℕ) → f w ≡ g w) → (n : ℕ) (s : List ℕ) (at : ℕ) → words_where n f s at ≡ words_where n g s at
words-alike f g e n s at = ap (λ (test : ℕ → Bool). words_where n test s at) (λ i. λ w. e w i)

-- A run of cells as the code lends it, and what a loop over cells answers and leaves: whether all pass and, where they do, the table
-- once they were met, with no mark higher by more than their number.
abbrev pub Lent : List ℕ → ℕ → ℕ → List ℕ
Lent s from to = take (to - from) (drop from s)

abbrev pub Ran : (ℕ → Bool) → List ℕ → List ℕ → List ℕ → Bool → Type 0
Ran test before after cells r =
    (r ≡ every test cells) × ((r ≡ true → Met before after cells) × (r ≡ true → (x : ℕ) → get_or after x 0 ≤ get_or before x 0 + length cells))

-- The same of all cells of one frame, whose variables are marked no more.
abbrev pub FrameRan : List ℕ → List ℕ → List ℕ → ℕ → ℕ → ℕ → ℕ → List ℕ → List ℕ → Bool → Type 0
FrameRan s arrays marks args start base top arrays' marks' r =
    (r ≡ frame_test s arrays marks args start base top)
    × ((r ≡ true → Gains marks' marks (range start (base - start)))
    × ((r ≡ true → Met arrays arrays' (cells_of_frame s start base top)) × (r ≡ true → CanRise arrays' start)))

-- The three runs of cells of one frame, as the code meets them.
module _ {s t₀ m₀ : List ℕ} {args start base top : ℕ} (h : BeforeFrame s t₀ m₀ args start base top) {stack : ℕ} (z : stack ≡ sbase s) where
  temporaries-are : Lent s (stack + base + 2) (stack + top) ≡ temporaries_of s base top
  temporaries-are =
      lent s (stack + base + 2) (stack + top) (sbase s + base + 2) (top - (base + 2)) (omega arith) (omega (arith, h.over)) (omega (arith, h.inside))

  arguments-are : Lent s (stack + start) (stack + start + args) ≡ part s (sbase s + start) args
  arguments-are =
      lent s (stack + start) (stack + start + args) (sbase s + start) args (omega arith) (omega arith) (omega (arith, h.arguments, h.over, h.inside))

  locals_are : Lent s (stack + start + args) (stack + base) ≡ part s (sbase s + start + args) (base - (start + args))
  locals_are =
      lent s (stack + start + args) (stack + base) (sbase s + start + args) (base - (start + args)) (omega arith) (omega (arith, h.arguments))
      (omega (arith, h.over, h.inside))

  temporaries-number : length (Lent s (stack + base + 2) (stack + top)) ≡ stack + top - (stack + base + 2)
  temporaries-number = lent_length s (stack + base + 2) (stack + top) (omega (arith, h.over)) (omega (arith, h.inside))

  arguments-number : length (Lent s (stack + start) (stack + start + args)) ≡ stack + start + args - (stack + start)
  arguments-number = lent_length s (stack + start) (stack + start + args) (omega arith) (omega (arith, h.arguments, h.over, h.inside))

  locals-number : length (Lent s (stack + start + args) (stack + base)) ≡ stack + base - (stack + start + args)
  locals-number = lent_length s (stack + start + args) (stack + base) (omega (arith, h.arguments)) (omega (arith, h.over, h.inside))

  pub temporaries-room : CanRise t₀ (length (Lent s (stack + base + 2) (stack + top)))
  temporaries-room x = omega (arith, h.room x, temporaries-number)

  module _ {t₁ : List ℕ} {r₁ : Bool} (f₁ : Ran (free_cell s (in_table t₀) (in_table m₀)) t₀ t₁ (Lent s (stack + base + 2) (stack + top)) r₁) where
    temporaries-pass : {b : Bool} → r₁ ≡ b → words_where (top - (base + 2)) (free_cell s (in_table t₀) (in_table m₀)) s (sbase s + base + 2) ≡ b
    temporaries-pass e = run (free_cell s (in_table t₀) (in_table m₀)) s (sbase s + base + 2) (top - (base + 2)) temporaries-are (sym f₁.0 ∙ e)

    pub temporaries-fail : r₁ ≡ false → false ≡ frame_test s t₀ m₀ args start base top
    unfolding frame_cells
    temporaries-fail e = simp (temporaries-pass e)

    module _ (yes₁ : r₁ ≡ true) where
      pub arguments-room : CanRise t₁ (length (Lent s (stack + start) (stack + start + args)))
      arguments-room x = omega (arith, h.arguments, h.over, h.room x, f₁.1.1 yes₁ x, temporaries-number, arguments-number)

      module _ {m₁ : List ℕ} {first end : ℕ} (a : first ≡ start) (b : end ≡ base) (g : Gains m₁ m₀ (range first (end - first))) where
        gone : Gains m₁ m₀ (range start (base - start))
        gone = rw (a, b) at g

        older : (l : List ℕ) → every (free_cell s (in_table t₁) (in_table m₁)) l ≡ every (free_cell s (in_table t₀) (lacking m₀ (range start (base - start)))) l
        older l =
            every-alike (free_cell s (in_table t₁) (in_table m₁)) (free_cell s (in_table t₀) (in_table m₁))
            (free-alike s (in_table m₁) (in_table t₀) (in_table t₁) (f₁.1.0 yes₁).same) l
            ∙ ap (λ (k : ℕ → ℕ). every (free_cell s (in_table t₀) k) l) (taken-away m₀ m₁ (range start (base - start)) gone)

        module _ {t₂ : List ℕ} {r₂ : Bool} (f₂ : Ran (free_cell s (in_table t₁) (in_table m₁)) t₁ t₂ (Lent s (stack + start) (stack + start + args)) r₂) where
          arguments-pass : {b : Bool} → r₂ ≡ b → words_where args (free_cell s (in_table t₀) (lacking m₀ (range start (base - start)))) s (sbase s + start) ≡ b
          arguments-pass e =
              run (free_cell s (in_table t₀) (lacking m₀ (range start (base - start)))) s (sbase s + start) args arguments-are
              (sym (older (Lent s (stack + start) (stack + start + args))) ∙ sym f₂.0 ∙ e)

          pub arguments-fail : r₂ ≡ false → false ≡ frame_test s t₀ m₀ args start base top
          unfolding frame_cells
          arguments-fail e = simp (temporaries-pass yes₁, arguments-pass e)

          module _ (yes₂ : r₂ ≡ true) where
            pub locals-room : CanRise t₂ (length (Lent s (stack + start + args) (stack + base)))
            locals-room x = omega (
              arith,
              h.arguments,
              h.over,
              h.room x,
              f₁.1.1 yes₁ x,
              f₂.1.1 yes₂ x,
              temporaries-number,
              arguments-number,
              locals-number,
            )

            module _ {t₃ : List ℕ} {r₃ : Bool} (f₃ : Ran (plain_cell (in_table t₂)) t₂ t₃ (Lent s (stack + start + args) (stack + base)) r₃) where
              locals-left : r₃ ≡ frame_test s t₀ m₀ args start base top
              unfolding frame_cells
              locals-left =
                  f₃.0
                  ∙ every-alike (direct (in_table t₂)) (direct (in_table t₀))
                  (direct-alike (in_table t₀) (in_table t₂) (λ x. (f₂.1.0 yes₂).same x ∙ (f₁.1.0 yes₁).same x))
                  (Lent s (stack + start + args) (stack + base))
                  ∙ sym (simp (temporaries-pass yes₁, arguments-pass yes₂)
                  (words-every (base - (start + args)) (direct (in_table t₀)) s (sbase s + start + args) ∙ ap (every (direct (in_table t₀))) (sym locals_are)))

              frame-met : r₃ ≡ true → Met t₀ t₃ (cells_of_frame s start base top)
              frame-met e =
                  let n : base - start ≡ args + (base - (start + args)) = omega (arith, h.arguments) in
                  met-then (rw temporaries-are at (f₁.1.0 yes₁))
                  (rw (n, ← part_join s (sbase s + start) args (base - (start + args)))
                  (met-then (rw arguments-are at (f₂.1.0 yes₂)) (rw locals_are at (f₃.1.0 e))))

              room-left : r₃ ≡ true → CanRise t₃ start
              room-left e x = omega (
                arith,
                h.arguments,
                h.over,
                h.room x,
                f₁.1.1 yes₁ x,
                f₂.1.1 yes₂ x,
                f₃.1.1 e x,
                temporaries-number,
                arguments-number,
                locals-number,
              )

              pub frame-done : FrameRan s t₀ m₀ args start base top t₃ m₁ r₃
              frame-done = (locals-left, (λ e. gone, (frame-met, room-left)))

pub never : {A : Type 0} → false ≡ true → A
never e = absurd (false≢true e)

-- The variables of the frames below the one at `base`.
older_of : ℕ → (ℕ → ℕ) → List ℕ → ℕ → List ℕ
older_of n size s base = cond (leb base (last_lbase_at s base)) [] (variables_from n size s (last_lbase_at s base))

-- The cells of the frame at `base`, with its variables and those of the older frames in lists.
abbrev pub listed : (ℕ → ℕ) → (ℕ → ℕ) → List ℕ → (ℕ → ℕ) → List ℕ → List ℕ → ℕ → ℕ → Bool
listed args size s arrays own older base top =
    frame_cells s arrays (in_list own) (in_list older) (args (code_word_at s base)) (base - size (code_word_at s base)) base top

module _ (args size : ℕ → ℕ) (s : List ℕ) (arrays : ℕ → ℕ) (base top : ℕ) where
  pub cells-none : (n : ℕ) → n ≤ 0 → cells_from n args size s arrays base top ≡ false
  unfolding cells_from
  cells-none zero l = refl
  cells-none (suc n) l = absurd (omega arith)

  step : (n : ℕ) → 0 < n → cells_from n args size s arrays base top
      ≡ listed args size s arrays (variables_from n size s base) (older_of (n - 1) size s base) base top
      && cond (leb base (last_lbase_at s base)) true (cells_from (n - 1) args size s arrays (last_lbase_at s base) (base - size (code_word_at s base)))
  unfolding cells_from older_of
  step zero l = absurd (omega arith)
  step (suc n) l = let e : suc n - 1 ≡ n = omega arith in rw e

  -- The same as a list says it, at the bottom frame and above it.
  pub cells-at-bottom : (n : ℕ) → 0 < n → base ≤ last_lbase_at s base → cells_from n args size s arrays base top
      ≡ listed args size s arrays (variables_from n size s base) [] base top && true
  unfolding older_of
  cells-at-bottom n pos l = step n pos ∙ simp (le-leb base (last_lbase_at s base) l)

  pub cells-above : (n : ℕ) → 0 < n → {last : ℕ} → last ≡ last_lbase_at s base → last < base → cells_from n args size s arrays base top
      ≡ listed args size s arrays (variables_from n size s base) (variables_from (n - 1) size s last) base top
      && cells_from (n - 1) args size s arrays last (base - size (code_word_at s base))
  unfolding older_of
  cells-above n pos e l = step n pos ∙ rw e (simp (lt-leb base (last_lbase_at s base) (rw e at l)))

  module _ (n : ℕ) (pos : 0 < n) {start count₁ last : ℕ} (es : start ≡ base - size (code_word_at s base)) (ea : count₁ ≡ args (code_word_at s base))
      (el : last ≡ last_lbase_at s base) (table : List ℕ) (t : Tally table (variables_from n size s base)) where
    pub own-marked : (x : ℕ) → count x (range start (base - start)) ≤ get_or table x 0
    own-marked x = ⊎_elim
        (λ (l : base ≤ last). omega (arith, t x, variables-bottom size s base es el n pos x l))
        (λ (l : last < base). omega (arith, t x, variables-on size s base es el n pos x l)) (order base last)

    older-answers : ◌≡◌ {A = ℕ → ℕ} (lacking table (range start (base - start))) (in_list (older_of (n - 1) size s base))
    unfolding older_of
    older-answers = λ i. λ x. each x i
      where
        each : (x : ℕ) → lacking table (range start (base - start)) x
            ≡ count x (cond (leb base (last_lbase_at s base)) [] (variables_from (n - 1) size s (last_lbase_at s base)))
        each x = ⊎_elim
            (λ (l : base ≤ last). simp (le-leb base (last_lbase_at s base) (rw el at l)) (omega (arith, t x, variables-bottom size s base es el n pos x l)))
            (λ (l : last < base). simp (lt-leb base (last_lbase_at s base) (rw el at l), ← el) (omega (arith, t x, variables-on size s base es el n pos x l)))
            (order base last)

    frame : frame_cells s arrays (in_table table) (lacking table (range start (base - start))) count₁ start base top
        ≡ listed args size s arrays (variables_from n size s base) (older_of (n - 1) size s base) base top
    frame =
        ap (λ (g : ℕ → ℕ). frame_cells s arrays g (lacking table (range start (base - start))) count₁ start base top)
        (same-answers table (variables_from n size s base) t)
        ∙ ap (λ (g : ℕ → ℕ). frame_cells s arrays (in_list (variables_from n size s base)) g count₁ start base top) older-answers
        ∙ rw (ea, es)

    turn : cells_from n args size s arrays base top
        ≡ frame_cells s arrays (in_table table) (lacking table (range start (base - start))) count₁ start base top
        && cond (leb base last) true (cells_from (n - 1) args size s arrays last start)
    turn = step n pos ∙ rw (frame, es, el)

    module _ {r : Bool} (q : r ≡ frame_cells s arrays (in_table table) (lacking table (range start (base - start))) count₁ start base top) where
      pub frame-fails : r ≡ false → cells_from n args size s arrays base top ≡ false
      frame-fails e = turn ∙ simp (sym q ∙ e)

      module _ (e : r ≡ true) where
        pub frame-bottom : base ≤ last → cells_from n args size s arrays base top ≡ true
        frame-bottom l = turn ∙ simp (sym q ∙ e, le-leb base last l)

        pub frame_on : last < base → cells_from n args size s arrays base top ≡ cells_from (n - 1) args size s arrays last start
        frame_on l = turn ∙ simp (sym q ∙ e, lt-leb base last l)

    module _ {after : List ℕ} (g : Gains after table (range start (base - start))) where
      pub older-marked : last < base → Tally after (variables_from (n - 1) size s last)
      older-marked l x = omega (arith, g.sum x, t x, variables-on size s base es el n pos x l)

-- A frame's test goes by what has a mark.
pub frame-alike : (s : List ℕ) (a b own older : ℕ → ℕ) (args start base top : ℕ) → ((x : ℕ) → leb 1 (b x) ≡ leb 1 (a x))
    → frame_cells s b own older args start base top ≡ frame_cells s a own older args start base top
unfolding frame_cells
frame-alike s a b own older args start base top same =
    rw (
      words-alike (free_cell s b own) (free_cell s a own) (free-alike s own a b same) (top - (base + 2)) s (sbase s + base + 2),
      words-alike (free_cell s b older) (free_cell s a older) (free-alike s older a b same) args s (sbase s + start),
      words-alike (direct b) (direct a) (direct-alike a b same) (base - (start + args)) s (sbase s + start + args),
    )

pub cells-alike : (a b : ℕ → ℕ) → ((x : ℕ) → leb 1 (b x) ≡ leb 1 (a x)) → (n : ℕ) (args size : ℕ → ℕ) (s : List ℕ) (base top : ℕ)
    → cells_from n args size s b base top ≡ cells_from n args size s a base top
unfolding cells_from
cells-alike a b same zero args size s base top = refl
cells-alike a b same (suc n) args size s base top =
    rw (
      frame-alike s a b (in_list (variables_from (suc n) size s base)) (in_list (cond (leb base (last_lbase_at s base)) [] (variables_from n size s (last_lbase_at s base)))) (args (code_word_at s base)) (base - size (code_word_at s base)) base top same,
      cells-alike a b same n args size s (last_lbase_at s base) (base - size (code_word_at s base)),
    )

-- All cells.
module _ (s regular alternate arrays : List ℕ) (marked : Tally arrays (array_starts s)) where
  globals : words_where (blockptr s - 8) (plain_cell (in_table arrays)) s 8 ≡ words_where (blockptr s - 8) (plain_cell (in_list (array_starts s))) s 8
  globals = ap (λ (h : ℕ → ℕ). words_where (blockptr s - 8) (plain_cell h) s 8) (same-answers arrays (array_starts s) marked)

  module _ {l : List ℕ} (p : l ≡ part s 8 (blockptr s - 8)) where
    pub globals-fail : every (plain_cell (in_table arrays)) l ≡ false → cells_test s regular alternate ≡ false
    unfolding cells_test
    globals-fail e = simp (sym globals ∙ run (direct (in_table arrays)) s 8 (blockptr s - 8) p e)

    pub globals-pass : every (plain_cell (in_table arrays)) l ≡ true → {after : List ℕ} → Met arrays after l
        → cells_test s regular alternate ≡ stack_test s regular alternate (in_table after) (lbase s) (ltop s + 1)
    unfolding cells_test
    globals-pass e {after} m =
        simp (sym globals ∙ run (direct (in_table arrays)) s 8 (blockptr s - 8) p e)
        (sym (ap (λ (h : ℕ → ℕ). stack_test s regular alternate h (lbase s) (ltop s + 1)) (same-answers arrays (array_starts s) marked))
        ∙ sym (cells-alike (in_table arrays) (in_table after) m.same (length s) (arguments regular alternate) (variables regular alternate) s
        (lbase s) (ltop s + 1)))
