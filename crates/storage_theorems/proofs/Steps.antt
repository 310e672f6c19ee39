-- Steps in array storage: nothing done, one after another, a word shared, a word dropped, cells dropped.
use Prim.Native.Nat.{ℕ, zero, suc, ◌+◌, ◌-◌, ◌/◌, ◌%◌, ◌^◌, ◌<◌, ◌≤◌}
use mathlib.Core.Path.{◌≡◌, refl, sym, ◌∙◌, ap, subst}
use mathlib.Core.Bool.{Bool, true, false, cond}
use mathlib.Core.List.{List, ◌∷◌, ◌++◌}
use mathlib.Core.Logic.{◌≢◌, ◌⊎◌, inl, inr, ⊎_elim}
use native.Mathlib.Omega.{arith}
use lib.ListN.{get_or, set, length}
use lib.Dec.{eqb}
use borrow.Author.Tests.{eqb-true, eqb-false}
use Rattle.descriptor.specs.Fields.{is_array, address, array_word}
use Rattle.segment.specs.State.{sbase, blockptr}
use Rattle.segment.specs.Blocks.{count_at}
use Rattle.segment.specs.Stack.{downward}
use Rattle.storage.specs.Release.{release}
use Rattle.storage.specs.Arrays.{raise, lower, share, drop_word, drop_words}
use Rattle.storage.specs.Heap.{count}
use Rattle.storage.specs.Owned.{ArrayIn, Owned, CellsKept, OwnedStep}
use Rattle.descriptor.proofs.Truth.{decide}
use Rattle.storage_theorems.proofs.Walks.{Same, over-le}
use Rattle.storage_theorems.proofs.Counts.{count-le, hit-cases, hit_same, count-append}
use Rattle.descriptor.proofs.Arrays.{array_of}
use Rattle.storage_theorems.proofs.Owners.{reown, recount}
use Rattle.storage_theorems.proofs.Gone.{gone}

-- nothing is done
pub kept-none : (s : List ℕ) → CellsKept s s
kept-none s = record { long = refl; first = refl; base = refl; rest = λ i l h. refl }

pub kept_on : {s s' s'' : List ℕ} → 8 ≤ blockptr s → CellsKept s s' → CellsKept s' s'' → CellsKept s s''
kept_on {s} {s'} l f g =
    let b : blockptr s' ≡ blockptr s = f.rest 4 (omega arith) (inl (omega arith)) in
    let t : sbase s' ≡ sbase s = ap (λ (w : ℕ). w / 2 ^ 16) f.first in
    record {
      long = g.long ∙ f.long;
      first = g.first ∙ f.first;
      base = g.base ∙ f.base;
      rest = λ i k h. g.rest i k (⊎_elim (λ q. inl (omega arith)) (λ q. inr (omega arith)) h) ∙ f.rest i k h;
    }

pub step-none : {s ws : List ℕ} (vs : List ℕ) → ((x : ℕ) → x < 2 ^ 16 → count (array_word x) vs ≡ count (array_word x) ws) → Owned s ws → OwnedStep s ws s vs
step-none {s} vs e o = record { own = reown vs e o; kept = kept-none s; same = λ w h k. refl }

pub step-on : {s ws s' vs s'' us : List ℕ} → 8 ≤ blockptr s → OwnedStep s ws s' vs → OwnedStep s' vs s'' us
    → ((w : ℕ) → 0 < count w ws → 0 < count w us → 0 < count w vs) → OwnedStep s ws s'' us
step-on l f g m = record { own = g.own; kept = kept_on l f.kept g.kept; same = λ w h k. g.same w (m w h k) k ∙ f.same w h (m w h k) }

-- a word that is no array's descriptor counts for none
pub plain : (w : ℕ) (ws : List ℕ) → is_array w ≡ false → (x : ℕ) → x < 2 ^ 16 → count (array_word x) (w ∷ ws) ≡ count (array_word x) ws
plain w ws n x l =
    ⊎_elim (λ e. absurd (eqb-false (w / 2 ^ 16) 0x200 n (omega (arith, e)))) (λ e. omega (arith, e)) (hit-cases (array_word x) w)

-- a word gets one owner more
pub share-own : {s ws : List ℕ} (w : ℕ) → Owned s ws → length ws < 65535 → (0 < count w ws) ⊎ (is_array w ≡ false) → OwnedStep s ws (share s w) (w ∷ ws)
unfolding share raise
share-own {s} {ws} w o few h = ⊎_elim yes not (decide (is_array w))
  where
    not : is_array w ≡ false → OwnedStep s ws (cond (is_array w) (raise s (address w)) s) (w ∷ ws)
    not e = rw e (step-none (w ∷ ws) (plain w ws e) o)

    more : (x : ℕ) → x < 2 ^ 16 → w ≡ array_word x → 0 < count w ws → OwnedStep s ws (raise s x) (array_word x ∷ ws)
    more x l e k =
        let n = o.named x l (rw e at k) in
        let c = o.counts x n.0 n.1 in
        recount o x n.0 n.1 ((get_or s (x + 1) 0 + 2 ^ 16) % 2 ^ 32) (array_word x ∷ ws) (omega (arith, c, few, count-le (array_word x) ws))
        (omega (arith, c, few, count-le (array_word x) ws, hit_same (array_word x))) (omega (arith, hit_same (array_word x)))
        (λ y q. ⊎_elim (λ d. absurd (q (omega (arith, d)))) (λ d. omega (arith, d)) (hit-cases (array_word y) (array_word x)))

    yes : is_array w ≡ true → OwnedStep s ws (cond (is_array w) (raise s (address w)) s) (w ∷ ws)
    yes e =
        ⊎_elim (λ k. let q : w ≡ array_word (address w) = array_of w e in
        let r = more (address w) (omega (arith, eqb-true (w / 2 ^ 16) 0x200 e)) q k in
        rw e (subst (λ (v : ℕ). OwnedStep s ws (raise s (address w)) (v ∷ ws)) (sym q) r))
        (λ n. let z : ◌≡◌ {A = ℕ} 0 1 = ap (λ (b : Bool). cond {A = ℕ} b 0 1) (sym e ∙ n) in absurd (omega arith)) h

-- a word gets one owner less
pub drop_own : {s ws : List ℕ} (w : ℕ) → Owned s (w ∷ ws) → OwnedStep s (w ∷ ws) (drop_word s w) ws
unfolding drop_word lower
drop_own {s} {ws} w o = ⊎_elim yes not (decide (is_array w))
  where
    not : is_array w ≡ false → OwnedStep s (w ∷ ws) (cond (is_array w) (lower s (address w)) s) ws
    not e = rw e (step-none ws (λ x l. sym (plain w ws e x l)) o)

    less : (x : ℕ) → x < 2 ^ 16 → (p : Owned s (array_word x ∷ ws)) → OwnedStep s (array_word x ∷ ws) (lower s x) ws
    less x l p = ⊎_elim last further (decide (eqb (count_at s x) 1))
      where
        n : (z : ℕ) × ArrayIn (blockptr s) p.blocks x z
        n = p.named x l (omega (arith, hit_same (array_word x)))

        c : (count_at s x ≡ count (array_word x) (array_word x ∷ ws)) × (0 < count (array_word x) (array_word x ∷ ws))
        c = p.counts x n.0 n.1

        last : eqb (count_at s x) 1 ≡ true
            → OwnedStep s (array_word x ∷ ws) (cond (eqb (count_at s x) 1) (release s x) (set s (x + 1) (get_or s (x + 1) 0 - 2 ^ 16))) ws
        last e = rw e (gone x n.0 p n.1 (omega (arith, c, hit_same (array_word x), eqb-true (count_at s x) 1 e)))

        further : eqb (count_at s x) 1 ≡ false
            → OwnedStep s (array_word x ∷ ws) (cond (eqb (count_at s x) 1) (release s x) (set s (x + 1) (get_or s (x + 1) 0 - 2 ^ 16))) ws
        further e =
            let d : count_at s x ≢ 1 = eqb-false (count_at s x) 1 e in
            rw e
            (recount p x n.0 n.1 (get_or s (x + 1) 0 - 2 ^ 16) ws (omega (arith, c, d, hit_same (array_word x)))
            (omega (arith, c, d, hit_same (array_word x))) (omega (arith, c, d, hit_same (array_word x)))
            (λ y q. ⊎_elim (λ i. absurd (q (omega (arith, i)))) (λ i. omega (arith, i)) (hit-cases (array_word y) (array_word x))))

    yes : is_array w ≡ true → OwnedStep s (w ∷ ws) (cond (is_array w) (lower s (address w)) s) ws
    yes e =
        let q : w ≡ array_word (address w) = array_of w e in
        let r = less (address w) (omega (arith, eqb-true (w / 2 ^ 16) 0x200 e)) (subst (λ (v : ℕ). Owned s (v ∷ ws)) q o) in
        rw e (subst (λ (v : ℕ). OwnedStep s (v ∷ ws) (lower s (address w)) ws) (sym q) r)

-- cells keep their words
pub downward-same : (s s' : List ℕ) (a n : ℕ) → Same s s' a (a + n) → downward s' a n ≡ downward s a n
downward-same s s' a zero e = refl
downward-same s s' a (suc n) e =
    let h : get_or s' (a + n) 0 ≡ get_or s (a + n) 0 = e (a + n) (omega arith) (omega arith) in
    let r : downward s' a n ≡ downward s a n = downward-same s s' a n (λ i l u. e i l (omega arith)) in
    cc

-- the highest cells and those below
pub downward-split : (s : List ℕ) (a m k : ℕ) → downward s a (m + k) ≡ downward s (a + m) k ++ downward s a m
downward-split s a m zero = let e : m + 0 ≡ m = omega arith in rw e
downward-split s a m (suc k) =
    let e : m + suc k ≡ suc (m + k) = omega arith in
    let q : a + (m + k) ≡ a + m + k = omega arith in
    rw (e, q, downward-split s a m k)

-- several cells of the stack are forgotten, the highest first
pub drops-own : (k : ℕ) {s : List ℕ} (ws : List ℕ) (b : ℕ) → Owned s (downward s b k ++ ws) → sbase s ≤ b
    → OwnedStep s (downward s b k ++ ws) (drop_words k s b) ws
drops-own zero ws b o l = step-none ws (λ x h. refl) o
drops-own (suc k) {s} ws b o l =
    let f = drop_own (get_or s (b + k) 0) o in
    let st : sbase (drop_word s (get_or s (b + k) 0)) ≡ sbase s = ap (λ (w : ℕ). w / 2 ^ 16) f.kept.first in
    let e : downward (drop_word s (get_or s (b + k) 0)) b k ≡ downward s b k = downward-same s _ b k
    (λ i h u. f.kept.rest i (omega (arith, o.heap.low, o.heap.top, over-le (blockptr s) o.blocks)) (inr (omega arith))) in
    let f' : OwnedStep s (downward s b (suc k) ++ ws) (drop_word s (get_or s (b + k) 0)) (downward (drop_word s (get_or s (b + k) 0)) b k ++ ws) = rw e f in
    let g = drops-own k ws b f'.own (omega arith) in
    step-on o.heap.low f' g (λ w h m. omega (arith, m, count-append w (downward (drop_word s (get_or s (b + k) 0)) b k) ws))
