-- The first two operands change places.
use Prim.Native.Nat.{ℕ, suc, ◌+◌, ◌-◌, ◌/◌, ◌%◌, ◌^◌, ◌<◌, ◌≤◌}
use mathlib.Core.Path.{◌≡◌, ◌∙◌, ap}
use mathlib.Core.List.{List}
use mathlib.Core.Logic.{◌≢◌, inr}
use native.Mathlib.Omega.{arith}
use lib.ListN.{get_or, set, length, length-set}
use lib.Seq.{get_or-set_same, get_or-set_other}
use Rattle.descriptor.specs.Fields.{array_word}
use Rattle.segment.specs.State.{sbase, ltop, lbase}
use Rattle.segment.specs.Stack.{downward}
use Rattle.segment.specs.Cells.{cell}
use Rattle.storage.specs.Heap.{count}
use Rattle.segment.specs.Machine.{map_machine, all_cells}
use Rattle.segment.specs.View.{words, owners, view}
use Rattle.manual.specs.Effects as manual
use Rattle.manual.proofs.Machines.{map_swapped}
use Rattle.storage_theorems.specs.Elsewhere.{Elsewhere}
use Rattle.storage_theorems.proofs.Owners.{reown}
use Rattle.storage_theorems.proofs.Steps.{downward-same}
use Rattle.storage_theorems.proofs.Elsewhere.{own-elsewhere, cell-elsewhere}
use Rattle.effects.specs.Sources.{operand_at}
use Rattle.effects.specs.Perform.{swap}
use Rattle.effects.specs.Seen.{temporaries}
use Rattle.effects.specs.Sound.{Sound}
use Rattle.effects_theorems.proofs.StateWords.{state-on, state-set}
use Rattle.frame_theorems.proofs.Counts.{machine-agree, cells_count, swapped-count}
use Rattle.frame_theorems.proofs.Frames.{chain_same, words_left}
use Rattle.effects_theorems.proofs.Sound.{Bounds, bounds, Done}

-- the two highest words of a list read from the highest down
two-swapped : (s s' : List ℕ) (a n : ℕ) → get_or s' (a + suc n) 0 ≡ get_or s (a + n) 0 → get_or s' (a + n) 0 ≡ get_or s (a + suc n) 0
    → downward s' a n ≡ downward s a n → downward s' a (suc (suc n)) ≡ manual.swapped (downward s a (suc (suc n)))
two-swapped s s' a n p q r = cc

module _ (s : List ℕ) (g : Sound s) (two : 2 ≤ temporaries s) where
  abbrev s' : List ℕ
  s' = set (set s (sbase s + ltop s) (operand_at s 1)) (sbase s + ltop s - 1) (operand_at s 0)

  low : Bounds s
  low = bounds g

  other : (j : ℕ) → j ≢ sbase s + ltop s → j ≢ sbase s + ltop s - 1 → get_or s' j 0 ≡ get_or s j 0
  other j h k = simp (get_or-set_other, h, k)

  moved : Elsewhere s s'
  moved = record {
    long = simp length-set;
    bound = ap (λ (w : ℕ). w / 2 ^ 16) (other 0 (omega (arith, low, two)) (omega (arith, low, two)));
    turn = ap (λ (w : ℕ). w % 2 ^ 16) (other 1 (omega (arith, low, two)) (omega (arith, low, two)));
    start = other 4 (omega (arith, low, two)) (omega (arith, low, two));
    inner = λ j l u. other j (omega (arith, low, two)) (omega (arith, low, two));
  }

  swapped-words : words s' ≡ manual.swap (words s)
  unfolding words
  swapped-words =
      let o0 : get_or s' 0 0 ≡ get_or s 0 0 = other 0 (omega (arith, low, two)) (omega (arith, low, two)) in
      let o1 : get_or s' 1 0 ≡ get_or s 1 0 = other 1 (omega (arith, low, two)) (omega (arith, low, two)) in
      let o2 : get_or s' 2 0 ≡ get_or s 2 0 = other 2 (omega (arith, low, two)) (omega (arith, low, two)) in
      words_left s s' low.low moved.bound (ap (λ (w : ℕ). w / 2 ^ 16) o1) (λ j l u. other j (omega (arith, low, two)) (omega (arith, low, two)))
      (λ j l u. other j (omega (arith, low, two)) (omega (arith, low, two)))
      ∙ rw (o0, o2, tops)
    where
      tops : downward s' (sbase s + lbase s + 2) (ltop s - (lbase s + 1)) ≡ manual.swapped (downward s (sbase s + lbase s + 2) (ltop s - (lbase s + 1)))
      tops =
          let e : ltop s - (lbase s + 1) ≡ suc (suc (ltop s - (lbase s + 1) - 2)) = omega arith in
          let p : sbase s + lbase s + 2 + suc (ltop s - (lbase s + 1) - 2) ≡ sbase s + ltop s = omega arith in
          let q : sbase s + lbase s + 2 + (ltop s - (lbase s + 1) - 2) ≡ sbase s + ltop s - 1 = omega arith in
          let z : sbase s + ltop s - 0 ≡ sbase s + ltop s = omega arith in
          let n : sbase s + ltop s ≢ sbase s + ltop s - 1 = omega arith in
          let l : sbase s + ltop s < length s = low.fits in
          let k : sbase s + ltop s - 1 < length (set s (sbase s + ltop s) (operand_at s 1)) = omega (arith, length-set s (sbase s + ltop s) (operand_at s 1)) in
          rw e
          (two-swapped s s' (sbase s + lbase s + 2) (ltop s - (lbase s + 1) - 2) (rw (p, q) (rw (get_or-set_other, get_or-set_same)))
          (rw (p, q) (rw (get_or-set_same, z)))
          (downward-same s s' (sbase s + lbase s + 2) (ltop s - (lbase s + 1) - 2) (λ j x y. other j (omega (arith, low, two)) (omega (arith, low, two)))))

  same_count : (x : ℕ) → count x (all_cells (manual.swap (words s))) ≡ count x (owners s)
  same_count x =
      omega (arith, cells_count x (manual.swap (words s)), cells_count x (words s), swapped-count x (words s).temporaries)

  sound' : Sound s'
  sound' =
      let o0 : get_or s' 0 0 ≡ get_or s 0 0 = other 0 (omega (arith, low, two)) (omega (arith, low, two)) in
      let o1 : get_or s' 1 0 ≡ get_or s 1 0 = other 1 (omega (arith, low, two)) (omega (arith, low, two)) in
      record {
        own = rw swapped-words (reown (all_cells (manual.swap (words s))) (λ x l. same_count (array_word x)) (own-elsewhere moved g.own));
        fits = omega (arith, o0, moved.long, low);
        above = omega (arith, o0, o1, low);
        chain = rw o1 (chain_same s' g.chain moved.bound (λ j l u. other j (omega (arith, low, two)) (omega (arith, low, two))));
      }

  view' : view s' ≡ manual.swap (view s)
  unfolding view
  view' =
      ap (map_machine (cell s')) swapped-words
      ∙ machine-agree (cell s') (cell s) (manual.swap (words s)) (λ w c. cell-elsewhere moved g.own w (omega (arith, c, same_count w)))
      ∙ rw (map_swapped (cell s) (words s).temporaries)

  pub swap-done : Done s (swap s) (manual.swap (view s))
  unfolding swap
  swap-done = record {
    sound = sound';
    seen = view';
    state = state-on (state-set s (sbase s + ltop s) (operand_at s 1) (omega (arith, low)) (inr (omega (arith, low))))
        (state-set (set s (sbase s + ltop s) (operand_at s 1)) (sbase s + ltop s - 1) (operand_at s 0) (omega (arith, low)) (inr (omega (arith, low, two))));
  }
