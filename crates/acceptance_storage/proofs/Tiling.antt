-- The walk's test passes exactly where blocks tile the storage, and its starts are theirs.
use Prim.Native.Nat.{ℕ, zero, suc, ◌+◌, ◌-◌, ◌^◌, ◌<◌, ◌≤◌}
use mathlib.Core.Path.{◌≡◌, refl, sym, ◌∙◌, ap}
use mathlib.Core.Bool.{Bool, true, false}
use mathlib.Core.List.{List, [], ◌∷◌}
use mathlib.Core.Logic.{inl, inr, ⊎_elim}
use native.Mathlib.Omega.{arith}
use borrow.Author.Tests.{eqb-true, eq-eqb}
use Rattle.segment.specs.Blocks.{free_at, size_at}
use Rattle.storage.specs.Heap.{Block, free, array, span, is_free, BlockAt, Walk, over, frees, count, hit}
use Rattle.storage.specs.Owned.{ArrayIn}
use Rattle.storage_theorems.proofs.Walks.{over-le}
use Rattle.storage_theorems.proofs.Counts.{hit-cases, hit_same}
use Rattle.acceptance_storage.specs.Blocks.{block_span, walk_from, starts_from}
use Rattle.acceptance_storage.specs.Structure.{arrays}
use Rattle.descriptor.proofs.Truth.{by_le, by-eq}
use Rattle.acceptance_storage.proofs.Tests.{never}
use Rattle.acceptance_storage.proofs.Spans.{Seen, seen, array_size, a_block}
use Rattle.acceptance_storage.proofs.Starts.{starts-end, free-hit, free-miss, array-hit, array-miss, walk_end, walk-bad, walk-past, walk-on, walk_none}

-- what passes the test is a walk
unfoldable pub Tiled : List ℕ → ℕ → Bool → ℕ → Type 0
Tiled s a before end = (blocks : List Block) × Walk s a before blocks × (over a blocks ≡ end)

cons-tiled : (s : List ℕ) (a : ℕ) (before : Bool) (end : ℕ) (b : Block) → BlockAt s a before b → Seen s a before b
    → Tiled s (a + block_span s a before) (free_at s a) end → Tiled s a before end
unfolding Tiled
cons-tiled s a before end b h k r =
    (b ∷ r.0, (h, rw (← k.covers, ← k.kind) r.1), rw (← k.covers) r.2)

pub walk-sound : (n : ℕ) (s : List ℕ) (a : ℕ) (before : Bool) (end : ℕ) → end < 2 ^ 16 → walk_from n s a before end ≡ true → Tiled s a before end
unfolding Tiled
walk-sound zero s a before end l h = absurd (never (sym (walk_none 0 s a before end (omega arith)) ∙ h))
walk-sound (suc n) s a before end l h =
    by-eq a end (λ e. ([], eqb-true _ _ (sym (walk_end s a end (suc n) (omega arith) before e) ∙ h), e))
    (λ e. by-eq (block_span s a before) 0 (λ z. absurd (never (sym (walk-bad s a end (suc n) (omega arith) before e z) ∙ h)))
    (λ z. by_le (a + block_span s a before) end
    (λ k. let b = a_block s a before z (omega arith) in cons-tiled s a before end b.0 b.1 b.2 (walk-sound n s _ _ end l (on e z k)))
    (λ k. absurd (never (sym (walk-past s a end (suc n) (omega arith) before e z k) ∙ h)))))
  where
    on : (a ≡ end → ⊥) → (block_span s a before ≡ 0 → ⊥) → a + block_span s a before ≤ end → walk_from n s (a + block_span s a before) (free_at s a) end ≡ true
    on e z k = let q : suc n - 1 ≡ n = omega arith in rw q at (sym (walk-on s a end (suc n) (omega arith) before e z k) ∙ h)

-- a walk passes the test
pub walk-complete : (n : ℕ) (s : List ℕ) (a : ℕ) (before : Bool) (blocks : List Block) → Walk s a before blocks → over a blocks < 2 ^ 16 → over a blocks - a < n
    → walk_from n s a before (over a blocks) ≡ true
walk-complete n s a before [] h l k = walk_end s a a n (omega arith) before refl ∙ eq-eqb _ _ h
walk-complete n s a before (b ∷ blocks) h l k =
    let o = over-le (a + span b) blocks in
    let r = seen s a before b h.0 (omega arith) in
    walk-on s a _ n (omega arith) before (λ e. omega (arith, r.least)) (λ z. omega (arith, r.least, r.covers)) (omega (arith, r.covers))
    ∙ rw (r.covers, r.kind) (walk-complete (n - 1) s (a + span b) (is_free b) blocks h.1 l (omega (arith, r.least)))

-- the starts are those of the blocks
pub walk-starts : (n : ℕ) (s : List ℕ) (a : ℕ) (before : Bool) (blocks : List Block) → Walk s a before blocks → over a blocks < 2 ^ 16 → over a blocks - a < n
    → (starts_from true n s a (over a blocks) ≡ frees a blocks) × (starts_from false n s a (over a blocks) ≡ arrays a blocks)
walk-starts n s a before [] h l k = (starts-end s a a n (omega arith) true (omega arith), starts-end s a a n (omega arith) false (omega arith))
walk-starts n s a before (free m ∷ blocks) h l k =
    let o = over-le (a + m) blocks in
    let r = seen s a before (free m) h.0 (omega arith) in
    let low : a < over (a + m) blocks = omega (arith, r.least) in
    let t = walk-starts (n - 1) s (a + m) true blocks h.1 l (omega (arith, r.least)) in
    (free-hit s a _ n (omega arith) low r.kind ∙ ap (λ (rest : List ℕ). a ∷ rest) (rw r.steps t.0), array-miss s a _ n (omega arith) low r.kind ∙ rw r.steps t.1)
walk-starts n s a before (array z m ∷ blocks) h l k =
    let o = over-le (a + (z + m)) blocks in
    let r = seen s a before (array z m) h.0 (omega arith) in
    let low : a < over (a + (z + m)) blocks = omega (arith, r.least) in
    let t = walk-starts (n - 1) s (a + (z + m)) false blocks h.1 l (omega (arith, r.least)) in
    (free-miss s a _ n (omega arith) low r.kind ∙ rw r.steps t.0, array-hit s a _ n (omega arith) low r.kind ∙ ap (λ (rest : List ℕ). a ∷ rest) (rw r.steps t.1))

-- an array among the blocks, by its address and by its SIZE
pub array-counted : (s : List ℕ) (a : ℕ) (before : Bool) (blocks : List Block) (x size : ℕ) → Walk s a before blocks → over a blocks < 2 ^ 16 → ArrayIn a blocks x size
    → (0 < count x (arrays a blocks)) × (size_at s x ≡ size)
array-counted s a before [] x size h l k = elim k [ ]
array-counted s a before (free m ∷ blocks) x size h l k = array-counted s (a + m) true blocks x size h.1 l k
array-counted s a before (array z m ∷ blocks) x size h l k =
    ⊎_elim (λ (e : (x ≡ a) × (size ≡ z)). rw (e.0, e.1) (omega (arith, hit_same a), array_size s a before z m h.0 (omega (arith, over-le (a + (z + m)) blocks))))
    (λ (e : ArrayIn (a + (z + m)) blocks x size). let r = array-counted s (a + (z + m)) false blocks x size h.1 l e in (omega (arith, r.0), r.1))
    k

pub array-named : (s : List ℕ) (a : ℕ) (before : Bool) (blocks : List Block) (x : ℕ) → Walk s a before blocks → over a blocks < 2 ^ 16 → 0 < count x (arrays a blocks)
    → ArrayIn a blocks x (size_at s x)
array-named s a before [] x h l k = absurd (omega arith)
array-named s a before (free m ∷ blocks) x h l k = array-named s (a + m) true blocks x h.1 l k
array-named s a before (array z m ∷ blocks) x h l k =
    ⊎_elim (λ (e : (x ≡ a) × (hit x a ≡ 1)). inl (e.0, ap (size_at s) e.0 ∙ array_size s a before z m h.0 (omega (arith, over-le (a + (z + m)) blocks))))
    (λ (e : (x ≡ a → ⊥) × (hit x a ≡ 0)). inr (array-named s (a + (z + m)) false blocks x h.1 l (omega (arith, e))))
    (hit-cases x a)
