-- The order of releases: cells are dropped from the highest down, by the words that stood in them, once the result is placed.
use Prim.Native.Nat.{ℕ, zero, suc, ◌+◌, ◌-◌, ◌/◌, ◌%◌, ◌^◌, ◌≤◌}
use mathlib.Core.Path.{◌≡◌, refl, sym, subst, ◌∙◌, ap}
use mathlib.Core.Bool.{true, false}
use mathlib.Core.Logic.{inr}
use mathlib.Core.List.{List, [], ◌∷◌, ◌++◌}
use native.Mathlib.Omega.{arith}
use lib.ListN.{get_or, set}
use Rattle.descriptor.specs.declared.Target.{Target}
use Rattle.segment.specs.State.{sbase, ltop, lbase, blockptr, set_ltop, set_lbase}
use Rattle.segment.specs.Cells.{undefined}
use Rattle.segment.specs.Stack.{last_lbase_at, downward}
use Rattle.storage.specs.Arrays.{share, drop_word, drop_words}
use Rattle.storage.specs.Owned.{Owned}
use Rattle.segment.specs.View.{view}
use Rattle.manual.specs.Effects as manual
use Rattle.manual.specs.Effects.{Source, variable, replaces, discards, stores, stores_element, leaves}
use Rattle.storage_theorems.proofs.Walks.{over-le}
use Rattle.storage_theorems.proofs.Steps.{downward-same, drop_own}
use Rattle.effects.specs.Sources.{address_of, source_word, placed}
use Rattle.effects.specs.Perform.{bottom_of, leaving_start, finish, block_of, replace, discard, store, store_at, store_element, leave_with, leave_without, perform, is_full}
use Rattle.effects.specs.Seen.{temporaries}
use Rattle.effects.specs.Sound.{Sound}
use Rattle.effects.specs.Fits.{Fits}
use Rattle.effects_theorems.proofs.Sources.{put-source}
use Rattle.effects_theorems.proofs.Effects.{source-found, x-is, x-small, copied}
use Rattle.effects_theorems.proofs.Element.{element-written}
use Rattle.effects_theorems.proofs.Replace.{replace-cells, replace-own, replace-above}
use Rattle.effects_theorems.proofs.Discard.{discard-own, discard-above}
use Rattle.effects_theorems.proofs.Leave.{leave-cells, leave_own, leave-above, without-first, with-put, with-shown}
use Rattle.placement.specs.Placement.{drop_each, operands_from, result_word, replaced_in_order, stored_in_order, element_stored_in_order, discarded_in_order, left_in_order, left_without_in_order}

-- a drop leaves the stack as it is
pub drops-each : (n : ℕ) {s : List ℕ} (ws : List ℕ) (a : ℕ) → Owned s (downward s a n ++ ws) → sbase s ≤ a → drop_words n s a ≡ drop_each s (downward s a n)
drops-each zero ws a o l = refl
drops-each (suc n) {s} ws a o l =
    let f = drop_own (get_or s (a + n) 0) o in
    let b : sbase (drop_word s (get_or s (a + n) 0)) ≡ sbase s = ap (λ (v : ℕ). v / 2 ^ 16) f.kept.first in
    let e : downward (drop_word s (get_or s (a + n) 0)) a n ≡ downward s a n = downward-same s _ a n
    (λ i h u. f.kept.rest i (omega (arith, o.heap.low, o.heap.top, over-le (blockptr s) o.blocks)) (inr (omega arith))) in
    drops-each n ws a (rw e f.own) (omega arith) ∙ ap (drop_each (drop_word s (get_or s (a + n) 0))) e

-- operands from the first on stand from the top down
pub operands-down : (s : List ℕ) (n i : ℕ) → i + n ≤ sbase s + ltop s + 1 → downward s (sbase s + ltop s + 1 - (i + n)) n ≡ operands_from s i n
operands-down s zero i h = refl
operands-down s (suc n) i h =
    let e : sbase s + ltop s + 1 - (i + suc n) + n ≡ sbase s + ltop s - i = omega arith in
    let d : sbase s + ltop s + 1 - (i + suc n) ≡ sbase s + ltop s + 1 - (i + 1 + n) = omega arith in
    let r = subst (λ (a : ℕ). downward s a n ≡ operands_from s (i + 1) n) (sym d) (operands-down s n (i + 1) (omega arith)) in
    rw (e, r)

module _ (s : List ℕ) (g : Sound s) (n : ℕ) where
  operands : n ≤ temporaries s → downward s (bottom_of s n) n ≡ operands_from s 0 n
  operands h = let e : 0 + n ≡ n = omega arith in rw e at (operands-down s n 0 (omega (arith, h)))

  pub replaced : (source : Source) → Fits s (replaces n source) → is_full s (replaces n source) ≡ false
      → perform s (replaces n source) ≡ replaced_in_order s n source
  unfolding replace
  replaced source h f =
      let p = put-source s g source h.1 (source-found s source f) in
      let c = manual.meant source (view s) in
      let d : drop_words n (placed s source) (bottom_of s n) ≡ drop_each (placed s source) (operands_from s 0 n) = drops-each n _ _
      (replace-own s g n (source_word s source) c (placed s source) p h.0)
      (replace-above s g n (source_word s source) c (placed s source) p h.0)
      ∙ ap (drop_each (placed s source)) (replace-cells s g n (source_word s source) c (placed s source) p h.0 ∙ operands h.0.taken) in
      ap (λ (l : List ℕ). finish l (bottom_of s n) (source_word s source)) d

  pub discarded : Fits s (discards n) → perform s (discards n) ≡ discarded_in_order s n
  unfolding discard
  discarded h = ap (λ (l : List ℕ). set_ltop l (ltop s - n)) (drops-each n _ _ (discard-own s g n h) (discard-above s g n h) ∙ ap (drop_each s) (operands h))

  pub left_without : Fits s (leaves n false) → perform s (leaves n false) ≡ left_without_in_order s n
  unfolding leave_without
  left_without h =
      let k = without-first s g n h in
      ap (λ (l : List ℕ). set_lbase (set_ltop l (lbase s - n - 1)) (last_lbase_at s (lbase s) % 2 ^ 16))
      (drops-each n _ _ (leave_own s g n h.empty h.cells [] s [] k refl) (leave-above s g n h.empty h.cells [] s [] k refl))

  pub left : Fits s (leaves n true) → perform s (leaves n true) ≡ left_in_order s n
  unfolding leave_with
  left h =
      let w = result_word s in
      let c = get_or (manual.current_cells (view s).frames) 0 undefined in
      let k = (with-put s g n h).step in
      let v = with-shown s g n h in
      let d : drop_words n (share s w) (leaving_start s n) ≡ drop_each (share s w) (downward s (leaving_start s n) n) = drops-each n _ _
      (leave_own s g n h.empty h.cells (w ∷ []) (share s w) (c ∷ []) k v)
      (leave-above s g n h.empty h.cells (w ∷ []) (share s w) (c ∷ []) k v)
      ∙ ap (drop_each (share s w)) (leave-cells s g n h.empty h.cells (w ∷ []) (share s w) (c ∷ []) k v) in
      ap (λ (l : List ℕ). set (set_lbase (set_ltop l (lbase s - n)) (last_lbase_at s (lbase s) % 2 ^ 16)) (leaving_start s n) (result_word s)) d

pub stored_element : (s : List ℕ) → Sound s → (t : Target) (place w n : ℕ) → Fits s (stores_element t place w n)
    → is_full s (stores_element t place w n) ≡ false → perform s (stores_element t place w n) ≡ element_stored_in_order s t place w n
unfolding store_element
stored_element s g t place w n h f =
    let has = h.1 in
    let q = element-written s g t has.there (block_of s (address_of s t)) (x-is s g t place w n has) (x-small s g t place w n has) place w n
    has.inside h.2 (copied s g t place w n has f) h.0 in
    replaced _ q.0 n (variable t) (q.1, q.2) refl

pub stored : (s : List ℕ) (t : Target) (source : Source) → perform s (stores t source) ≡ stored_in_order s t source
unfolding store store_at
stored s t source = refl
