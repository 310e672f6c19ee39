-- Test 17 over a chain of frames passes exactly where every cell is of its kind.
use Prim.Native.Nat.{ℕ, ◌+◌, ◌-◌, ◌^◌, ◌<◌, ◌≤◌}
use mathlib.Core.Path.{◌≡◌, refl, sym, ◌∙◌}
use mathlib.Core.Bool.{Bool, true}
use mathlib.Core.List.{List, [], ◌∷◌}
use mathlib.Core.Logic.{inl, inr}
use native.Mathlib.Omega.{arith}
use lib.ListN.{get_or}
use Rattle.segment.specs.State.{sbase, blockptr}
use Rattle.segment.specs.Stack.{stack_at, last_lbase_at, code_word_at}
use Rattle.storage.specs.Heap.{count}
use Rattle.acceptance_storage.specs.Tests.{words_where}
use Rattle.descriptor.proofs.Truth.{by_le}
use Rattle.acceptance_storage.proofs.Tests.{both, passes}
use Rattle.acceptance.specs.Frames.{arguments, variables}
use Rattle.acceptance.specs.Cells.{in_list, range, plain_cell, free_cell, variables_from, frame_cells, cells_from}
use Rattle.acceptance.specs.Structure.{FrameChain, frame_start, locals_start, VariableOf, FrameCells, StackCells}
use Rattle.acceptance.proofs.VariableMarks.{variables-bottom, variables-on}
use Rattle.acceptance.proofs.FrameCells.{cells-at-bottom, cells-above}
use Rattle.acceptance.proofs.Positions.{words-at, words-all, range-in, range-has}
use Rattle.acceptance.proofs.CellKinds.{direct-sound, direct-complete, free-sound, free-complete, direct-map, either-map}

-- The variables of a chain of frames.
pub variable-sound : (older : List ℕ) (n : ℕ) (s regular alternate : List ℕ) (base : ℕ) → base < n → FrameChain s regular alternate base older
    → (a : ℕ) → 0 < count a (variables_from n (variables regular alternate) s base) → VariableOf s regular alternate (base ∷ older) a
variable-sound [] n s regular alternate base l h a k =
    let r = range-in (frame_start s regular alternate base) (base - frame_start s regular alternate base) a
    (omega (arith, k, variables-bottom (variables regular alternate) s base {start = frame_start s regular alternate base} {last = last_lbase_at s base} refl refl n (omega arith) a (omega (arith, h.itself)))) in
    inl (r.0, omega (arith, r.1))
variable-sound (next ∷ older) n s regular alternate base l h a k =
    by_le 1 (count a (range (frame_start s regular alternate base) (base - frame_start s regular alternate base)))
    (λ m. let r = range-in (frame_start s regular alternate base) (base - frame_start s regular alternate base) a m in inl (r.0, omega (arith, r.1)))
    (λ m. inr (variable-sound older (n - 1) s regular alternate next (omega (arith, h.0.start)) h.1 a
    (omega (arith, k, m, variables-on (variables regular alternate) s base {start = frame_start s regular alternate base} {last = next} refl (sym h.0.last) n (omega arith) a (omega (arith, h.0.start))))))

pub variable-complete : (older : List ℕ) (n : ℕ) (s regular alternate : List ℕ) (base : ℕ) → base < n → FrameChain s regular alternate base older
    → (a : ℕ) → VariableOf s regular alternate (base ∷ older) a → (0 < count a (variables_from n (variables regular alternate) s base)) × (a < base)
variable-complete [] n s regular alternate base l h a (inl k) = (
  omega (
    arith,
    range-has (frame_start s regular alternate base) (base - frame_start s regular alternate base) a k.0 (omega (arith, k.1)),
    variables-bottom (variables regular alternate) s base {start = frame_start s regular alternate base} {last = last_lbase_at s base} refl refl n (omega arith) a (omega (arith, h.itself)),
  ),
  k.1,
)
variable-complete [] n s regular alternate base l h a (inr k) = absurd k
variable-complete (next ∷ older) n s regular alternate base l h a (inl k) = (
  omega (
    arith,
    range-has (frame_start s regular alternate base) (base - frame_start s regular alternate base) a k.0 (omega (arith, k.1)),
    variables-on (variables regular alternate) s base {start = frame_start s regular alternate base} {last = next} refl (sym h.0.last) n (omega arith) a (omega (arith, h.0.start)),
  ),
  k.1,
)
variable-complete (next ∷ older) n s regular alternate base l h a (inr k) =
    let r = variable-complete older (n - 1) s regular alternate next (omega (arith, h.0.start)) h.1 a k in (
      omega (
        arith,
        r.0,
        variables-on (variables regular alternate) s base {start = frame_start s regular alternate base} {last = next} refl (sym h.0.last) n (omega arith) a (omega (arith, h.0.start)),
      ),
      omega (arith, r.1, h.0.start),
    )

abbrev tested : (ℕ → ℕ) → List ℕ → List ℕ → List ℕ → List ℕ → List ℕ → ℕ → ℕ → Bool
tested arrays s regular alternate own under base top =
    frame_cells s arrays (in_list own) (in_list under) (arguments regular alternate (code_word_at s base)) (frame_start s regular alternate base) base top

-- The cells of one frame, by the variables that its temporaries, and its arguments, may name.
module _ (arrays : ℕ → ℕ) (s regular alternate own under : List ℕ) (base top : ℕ) (older : List ℕ) where
  pub frame-sound : ((a : ℕ) → 0 < count a own → VariableOf s regular alternate (base ∷ older) a) → ((a : ℕ) → 0 < count a under → VariableOf s regular alternate older a)
      → tested arrays s regular alternate own under base top ≡ true
      → FrameCells (λ a. 1 ≤ arrays a) s regular alternate base top older
  unfolding frame_cells
  frame-sound v u h =
      let q = both _ (words_where (base - locals_start s regular alternate base) (plain_cell arrays) s (sbase s + frame_start s regular alternate base + arguments regular alternate (code_word_at s base))) h in
      let p = both (words_where (top - (base + 2)) (free_cell s arrays (in_list own)) s (sbase s + base + 2)) _ q.0 in
      record {
        temporaries = λ i l k. free-sound arrays s regular alternate own (base ∷ older) (stack_at s i) v
            (words-at (top - (base + 2)) (free_cell s arrays (in_list own)) s (sbase s + base + 2) p.0 (sbase s + i) (omega arith) (omega arith));
        arguments = λ i l k. free-sound arrays s regular alternate under older (stack_at s i) u
            (words-at (arguments regular alternate (code_word_at s base)) (free_cell s arrays (in_list under)) s (sbase s + frame_start s regular alternate base) p.1 (sbase s + i) (omega arith) (omega arith));
        locals = λ i l k. direct-sound arrays (stack_at s i)
            (words-at (base - locals_start s regular alternate base) (plain_cell arrays) s (sbase s + frame_start s regular alternate base + arguments regular alternate (code_word_at s base)) q.1 (sbase s + i) (omega arith) (omega arith));
      }

  pub frame-complete : blockptr s ≤ 2 ^ 16
      → ((a : ℕ) → VariableOf s regular alternate (base ∷ older) a → (0 < count a own) × (a < 2 ^ 16))
      → ((a : ℕ) → VariableOf s regular alternate older a → (0 < count a under) × (a < 2 ^ 16))
      → FrameCells (λ a. 1 ≤ arrays a) s regular alternate base top older
      → tested arrays s regular alternate own under base top ≡ true
  unfolding frame_cells
  frame-complete small v u h =
      passes (passes (words-all (top - (base + 2)) (free_cell s arrays (in_list own)) s (sbase s + base + 2)
      (λ j l k. let e : sbase s + (j - sbase s) ≡ j = omega arith in
      free-complete arrays s regular alternate own (base ∷ older) (get_or s j 0) small v (rw e at (h.temporaries (j - sbase s) (omega arith) (omega arith)))))
      (words-all (arguments regular alternate (code_word_at s base)) (free_cell s arrays (in_list under)) s (sbase s + frame_start s regular alternate base)
      (λ j l k. let e : sbase s + (j - sbase s) ≡ j = omega arith in
      free-complete arrays s regular alternate under older (get_or s j 0) small u (rw e at (h.arguments (j - sbase s) (omega arith) (omega arith))))))
      (words-all (base - locals_start s regular alternate base) (plain_cell arrays) s (sbase s + frame_start s regular alternate base + arguments regular alternate (code_word_at s base))
      (λ j l k. let e : sbase s + (j - sbase s) ≡ j = omega arith in
      direct-complete arrays (get_or s j 0) (rw e at (h.locals (j - sbase s) (omega arith) (omega arith)))))

-- The cells of all frames.
pub stack-sound : (older : List ℕ) (n : ℕ) (arrays : ℕ → ℕ) (s regular alternate : List ℕ) (base top : ℕ) → base < n → FrameChain s regular alternate base older
    → cells_from n (arguments regular alternate) (variables regular alternate) s arrays base top ≡ true
    → StackCells (λ a. 1 ≤ arrays a) s regular alternate base top older
stack-sound [] n arrays s regular alternate base top l h t =
    let c = both (tested arrays s regular alternate (variables_from n (variables regular alternate) s base) [] base top) true (sym (cells-at-bottom (arguments regular alternate) (variables regular alternate) s arrays base top n (omega arith) (omega (arith, h.itself))) ∙ t) in
    frame-sound arrays s regular alternate (variables_from n (variables regular alternate) s base) [] base top []
    (variable-sound [] n s regular alternate base l h) (λ a k. absurd (omega arith)) c.0
stack-sound (next ∷ older) n arrays s regular alternate base top l h t =
    let c = both (tested arrays s regular alternate (variables_from n (variables regular alternate) s base) (variables_from (n - 1) (variables regular alternate) s next) base top) (cells_from (n - 1) (arguments regular alternate) (variables regular alternate) s arrays next (frame_start s regular alternate base))
    (sym (cells-above (arguments regular alternate) (variables regular alternate) s arrays base top n (omega arith) (sym h.0.last) (omega (arith, h.0.start))) ∙ t) in (
      frame-sound arrays s regular alternate (variables_from n (variables regular alternate) s base) (variables_from (n - 1) (variables regular alternate) s next) base top (next ∷ older)
          (variable-sound (next ∷ older) n s regular alternate base l h) (variable-sound older (n - 1) s regular alternate next (omega (arith, h.0.start)) h.1) c.0,
      stack-sound older (n - 1) arrays s regular alternate next (frame_start s regular alternate base) (omega (arith, h.0.start)) h.1 c.1,
    )

pub stack-complete : (older : List ℕ) (n : ℕ) (arrays : ℕ → ℕ) (s regular alternate : List ℕ) (base top : ℕ) → base < n → base ≤ 2 ^ 16 → blockptr s ≤ 2 ^ 16
    → FrameChain s regular alternate base older → StackCells (λ a. 1 ≤ arrays a) s regular alternate base top older
    → cells_from n (arguments regular alternate) (variables regular alternate) s arrays base top ≡ true
stack-complete [] n arrays s regular alternate base top l low small h t =
    cells-at-bottom (arguments regular alternate) (variables regular alternate) s arrays base top n (omega arith) (omega (arith, h.itself))
    ∙ passes (frame-complete arrays s regular alternate (variables_from n (variables regular alternate) s base) [] base top [] small
    (λ a k. let r = variable-complete [] n s regular alternate base l h a k in (r.0, omega (arith, r.1))) (λ a k. absurd k) t) refl
stack-complete (next ∷ older) n arrays s regular alternate base top l low small h t =
    cells-above (arguments regular alternate) (variables regular alternate) s arrays base top n (omega arith) (sym h.0.last) (omega (arith, h.0.start))
    ∙ passes (frame-complete arrays s regular alternate (variables_from n (variables regular alternate) s base) (variables_from (n - 1) (variables regular alternate) s next) base top (next ∷ older) small
    (λ a k. let r = variable-complete (next ∷ older) n s regular alternate base l h a k in (r.0, omega (arith, r.1)))
    (λ a k. let r = variable-complete older (n - 1) s regular alternate next (omega (arith, h.0.start)) h.1 a k in (r.0, omega (arith, r.1, h.0.start))) t.0)
    (stack-complete older (n - 1) arrays s regular alternate next (frame_start s regular alternate base) (omega (arith, h.0.start)) (omega (arith, h.0.start)) small h.1 t.1)

-- More addresses may be those of arrays.
module _ {A B : ℕ → Type 0} (f : (a : ℕ) → A a → B a) where
  pub frame-map : {s regular alternate : List ℕ} {base top : ℕ} {older : List ℕ} → FrameCells A s regular alternate base top older → FrameCells B s regular alternate base top older
  frame-map h = record {
    temporaries = λ i l k. either-map f (h.temporaries i l k);
    arguments = λ i l k. either-map f (h.arguments i l k);
    locals = λ i l k. direct-map f (h.locals i l k);
  }

  pub stack-map : (older : List ℕ) (s regular alternate : List ℕ) (base top : ℕ) → StackCells A s regular alternate base top older → StackCells B s regular alternate base top older
  stack-map [] s regular alternate base top h = frame-map h
  stack-map (next ∷ older) s regular alternate base top h = (frame-map h.0, stack-map older s regular alternate next (frame_start s regular alternate base) h.1)
