-- The walk over the blocks: over other words, with its end replaced, and behind a block that is not free any more.
use Prim.Native.Nat.{ℕ, ◌+◌, ◌-◌, ◌%◌, ◌^◌, ◌<◌, ◌≤◌}
use mathlib.Core.Path.{◌≡◌, ◌∙◌}
use mathlib.Core.Bool.{Bool, true, false}
use mathlib.Core.List.{List, [], ◌∷◌, ◌++◌}
use native.Mathlib.Omega.{arith}
use lib.ListN.{get_or}
use Rattle.storage.specs.Heap.{Block, span, is_free, BlockAt, Walk, over, free, array}

-- the words from `a` up to but not at `e` are the same
abbrev pub Same : List ℕ → List ℕ → ℕ → ℕ → Type 0
Same s s' a e = (i : ℕ) → a ≤ i → i < e → get_or s' i 0 ≡ get_or s i 0

pub over-le : (a : ℕ) (bs : List Block) → a ≤ over a bs
over-le a [] = omega arith
over-le a (b ∷ bs) = omega (arith, over-le (a + span b) bs)

-- a block keeps its words
pub block_same : (s s' : List ℕ) (a : ℕ) (p : Bool) (b : Block) → BlockAt s a p b → Same s s' a (a + span b) → BlockAt s' a p b
block_same s s' a p (free n) h e = record {
  alone = h.alone;
  least = h.least;
  first = e a (omega arith) (omega arith) ∙ h.first;
  end = e (a + n - 1) (omega arith) (omega arith) ∙ h.end;
}
block_same s s' a p (array z k) h e = record {
  least = h.least;
  small = h.small;
  first = e a (omega arith) (omega arith) ∙ h.first;
}

-- a walk over words that are the same, the dummy's first among them
pub walk_same : (s s' : List ℕ) (a : ℕ) (p : Bool) (bs : List Block) → Walk s a p bs → Same s s' a (over a bs + 1) → Walk s' a p bs
walk_same s s' a p [] h e = e a (omega arith) (omega arith) ∙ h
walk_same s s' a p (b ∷ bs) h e = (
  block_same s s' a p b h.0 (λ i l u. e i l (omega (arith, over-le (a + span b) bs))),
  walk_same s s' (a + span b) (is_free b) bs h.1 (λ i l u. e i (omega arith) u),
)

-- a walk whose end is replaced
pub walk-replace : (s s' : List ℕ) (a : ℕ) (p : Bool) (xs ys ys' : List Block) → Walk s a p (xs ++ ys) → Same s s' a (over a xs)
    → ((q : Bool) → Walk s (over a xs) q ys → Walk s' (over a xs) q ys') → Walk s' a p (xs ++ ys')
walk-replace s s' a p [] ys ys' h e k = k p h
walk-replace s s' a p (b ∷ xs) ys ys' h e k = (
  block_same s s' a p b h.0 (λ i l u. e i l (omega (arith, over-le (a + span b) xs))),
  walk-replace s s' (a + span b) (is_free b) xs ys ys' h.1 (λ i l u. e i (omega arith) u) k,
)

-- a walk after a free block, where that block is not free any more
pub walk-clear : (s s' : List ℕ) (a : ℕ) (bs : List Block) → Walk s a true bs → Same s s' (a + 1) (over a bs + 1)
    → get_or s' a 0 ≡ get_or s a 0 % 2 ^ 30 → over a bs < 2 ^ 16 → Walk s' a false bs
walk-clear s s' a [] h e k w = k ∙ rw h
walk-clear s s' a (free n ∷ bs) h e k w = absurd (true-false h.0.alone)
  where
    true-false : true ≡ false → ⊥
    true-false q = let z : ◌≡◌ {A = ℕ} 0 1 = cc in omega arith
walk-clear s s' a (array z m ∷ bs) h e k w = (
  record {
    least = h.0.least;
    small = h.0.small;
    first = omega (arith, over-le (a + (z + m)) bs);
  },
  walk_same s s' (a + (z + m)) false bs h.1 (λ i l u. e i (omega arith) u),
)

-- the dummy's SIZE is 0
pub walk-dummy : (s : List ℕ) (a : ℕ) (p : Bool) (bs : List Block) → Walk s a p bs → get_or s (over a bs) 0 % 2 ^ 16 ≡ 0
walk-dummy s a true [] h = omega arith
walk-dummy s a false [] h = omega arith
walk-dummy s a p (b ∷ bs) h = walk-dummy s (a + span b) (is_free b) bs h.1

-- a free block's words, and those of the walk behind it
pub walk_at : (s : List ℕ) (a : ℕ) (p : Bool) (xs ys : List Block) → Walk s a p (xs ++ ys) → (q : Bool) × Walk s (over a xs) q ys
walk_at s a p [] ys h = (p, h)
walk_at s a p (b ∷ xs) ys h = walk_at s (a + span b) (is_free b) xs ys h.1
