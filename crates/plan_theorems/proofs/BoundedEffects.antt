-- Effects keep to words of 32 bits where their sources do.
use Prim.Native.Nat.{ℕ, zero, suc, ◌+◌, ◌-◌, ◌*◌, ◌%◌, ◌^◌, ◌<◌, ◌≤◌}
use mathlib.Core.Path.{◌≡◌}
use mathlib.Core.Bool.{Bool, true, false, cond}
use mathlib.Core.List.{List, [], ◌∷◌, ◌++◌}
use mathlib.Core.Logic.{◌≢◌}
use native.Mathlib.Omega.{arith}
use lib.Dec.{ltb, leb, eqb}
use lib.ListN.{get_or, set, replicate}
use lib.Seq.{sets}
use borrow.Author.Tests.{ltb-false, ne_eqb}
use Rattle.descriptor.specs.declared.Target.{Target}
use Rattle.descriptor.specs.declared.Target.TheVariants.{Local, Global}
use Rattle.descriptor.specs.Fields.{undefined_word}
use Rattle.segment.specs.State.{sbase, ltop, lbase, set_ltop}
use Rattle.segment.specs.Stack.{last_lbase_at}
use Rattle.segment.specs.Blocks.{rank_at, count_at, product, shape_at, elements_at, need}
use Rattle.segment.specs.Lent.{Words}
use Rattle.segment.proofs.Words.{set_below, words-part, words-sets, Short, short-set, short-ltop, short-lbase, short-iorg, short-pctr}
use Rattle.storage.specs.Request.{request_at}
use Rattle.storage.specs.Arrays.{place_at}
use Rattle.manual.specs.Effects.{Source, variable, operand, word, undefined_value, reference, made, Effect, replaces, discards, swaps, stores, stores_element, enters, leaves, jumps, sets_origin}
use Rattle.manual.proofs.Tests.{none-holds}
use Rattle.effects.specs.Sources.{address_of, held_at, operand_at, source_word, placed}
use Rattle.effects.specs.Perform.{bottom_of, block_of, leaving_start, finish, replace, discard, swap, store_at, store, unshare, write_element, store_element, enter, leave_with, leave_without, perform, performs, source_need, none_for, is_full, first_full}
use Rattle.effects.specs.Sound.{Sound}
use Rattle.effects.specs.Fits.{Available, Fits}
use Rattle.effects.specs.Requests.{AllFit, OneRequest}
use Rattle.effects_theorems.proofs.Effects.{perform-theorem}
use Rattle.effects_theorems.proofs.Lists.{AllServed, all-served}
use Rattle.plan_theorems.proofs.Lists.{All, count-all, all_map, all_append, all_replicate, words-all}
use Rattle.plan_theorems.proofs.Values.{Length}
use Rattle.plan_theorems.specs.Bounded.{SmallSource, Small, AllSmall}
use Rattle.plan_theorems.proofs.BoundedStorage.{request-below, short-share, short-drop, short-drops, short-place}

-- ---- sources

-- What is served is short.
short : (s : List ℕ) (n : ℕ) → n ≢ 0 → cond (eqb n 0) false (none_for s n) ≡ false → n ≤ 16384
short s n d h = ltb-false 16384 n (none-holds (ltb 16384 n) (eqb (request_at s n) 0) (rw (ne_eqb n 0 d) at h)).0

-- A source of words, whose block is short.
abbrev Ready : Source → Type 0
Ready (variable t) = Unit {0}
Ready (operand i) = Unit {0}
Ready (word w) = w < 2 ^ 32
Ready undefined_value = Unit {0}
Ready (reference t) = Unit {0}
Ready (made shape ravel) = (need shape ravel < 2 ^ 16) × Words shape × Words ravel

source-ready : (s : List ℕ) (source : Source) → Available s source → cond (eqb (source_need source) 0) false (none_for s (source_need source)) ≡ false
    → SmallSource source → Ready source
source-ready s (variable t) a f k = tt
source-ready s (operand i) a f k = tt
source-ready s (word w) a f k = k
source-ready s undefined_value a f k = tt
source-ready s (reference t) a f k = tt
source-ready s (made shape ravel) a f k = (
  omega (arith, short s (need shape ravel) (omega arith) f),
  words-all shape (all_map Length (λ w. w < 2 ^ 32) (λ w l. omega (arith, l)) shape (count-all Length shape a.lengths)),
  k,
)

module _ {s : List ℕ} (h : Short s) where
  word_below : (source : Source) → Ready source → source_word s source < 2 ^ 32
  unfolding place_at
  word_below (variable t) r = h.at (address_of s t)
  word_below (operand i) r = h.at (sbase s + ltop s - i)
  word_below (word w) r = r
  word_below undefined_value r = omega arith
  word_below (reference (Local a)) r = omega arith
  word_below (reference (Global g)) r = omega arith
  word_below (made shape ravel) r = omega (arith, request-below h (need shape ravel))

  short-placed : (source : Source) → Ready source → Short (placed s source)
  short-placed (variable t) r = short-share h (held_at s t)
  short-placed (operand i) r = short-share h (operand_at s i)
  short-placed (word w) r = h
  short-placed undefined_value r = h
  short-placed (reference t) r = h
  short-placed (made shape ravel) r = short-place h shape ravel r.0 r.1 r.2

  short-store : (i : ℕ) (source : Source) → Ready source → Short (store_at s i source)
  unfolding store_at
  short-store i source r = short-drop (short-set (short-placed source r) i (source_word s source) (word_below source r)) (get_or s i 0)

-- ---- effects

-- SBASE and LTOP stand in the segment, so that word 0 is short
first_below : {s : List ℕ} → Sound s → get_or s 0 0 < 2 ^ 32
first_below g = omega (arith, g.fits, g.own.heap.short)

finish-below : {s : List ℕ} → Short s → (b w : ℕ) → w < 2 ^ 32 → Sound (finish s b w) → (i : ℕ) → get_or (finish s b w) i 0 < 2 ^ 32
unfolding finish set_ltop
finish-below h b w k g zero = first_below g
finish-below {s} h b w k g (suc i) =
    set_below (set s 0 (sbase s * 2 ^ 16 + (b - sbase s))) b w (suc i)
    (set_below s 0 (sbase s * 2 ^ 16 + (b - sbase s)) (suc i) (h.at (suc i)) (λ e. absurd (omega (arith, e)))) (λ e. k)

module _ {s : List ℕ} (h : Short s) where
  short-replace : (n : ℕ) (source : Source) → Ready source → Sound (replace s n source) → Short (replace s n source)
  unfolding replace
  short-replace n source r g =
      record { at = finish-below (short-drops n (short-placed h source r) (bottom_of s n)) (bottom_of s n) (source_word s source) (word_below h source r) g }

  short-discard : (n : ℕ) → Short (discard s n)
  unfolding discard
  short-discard n = short-ltop (short-drops n h (bottom_of s n)) (ltop s - n) (omega arith)

  short-swap : Short (swap s)
  unfolding swap
  short-swap =
      short-set (short-set h (sbase s + ltop s) (operand_at s 1) (h.at (sbase s + ltop s - 1))) (sbase s + ltop s - 1) (operand_at s 0) (h.at (sbase s + ltop s - 0))

  words-shape : (a : ℕ) → Words (shape_at s a)
  unfolding shape_at
  words-shape a = words-part s h.at (a + 2) (rank_at s a)

  words-elements : (a : ℕ) → Words (elements_at s a)
  unfolding elements_at
  words-elements a = words-part s h.at (a + 2 + rank_at s a) (product (shape_at s a))

  -- the copy of the array at `a`, where one is asked for
  short-copy : (i a : ℕ) (b : Bool)
      → cond (eqb (cond b (need (shape_at s a) (elements_at s a)) 0) 0) false (none_for s (cond b (need (shape_at s a) (elements_at s a)) 0)) ≡ false
      → Short (cond b (store_at s i (made (shape_at s a) (elements_at s a))) s)
  short-copy i a true e =
      short-store h i (made (shape_at s a) (elements_at s a))
      (omega (arith, short s (need (shape_at s a) (elements_at s a)) (omega arith) e), words-shape a, words-elements a)
  short-copy i a false e = h

  short-unshare : (t : Target) (place w n : ℕ) → is_full s (stores_element t place w n) ≡ false → Short (unshare s (address_of s t))
  unfolding unshare
  short-unshare t place w n f = short-copy (address_of s t) (block_of s (address_of s t)) (leb 2 (count_at s (block_of s (address_of s t)))) f

  short-enter : (n f : ℕ) → ltop s + n + 2 < 2 ^ 16 → f < 2 ^ 32 → Short (enter s n f)
  unfolding enter
  short-enter n f k l =
      let ws = replicate n undefined_word ++ (lbase s ∷ f ∷ []) in
      let all : All (λ w. w < 2 ^ 32) ws = all_append (λ (w : ℕ). w < 2 ^ 32) (replicate n undefined_word) (lbase s ∷ f ∷ [])
      (all_replicate (λ (w : ℕ). w < 2 ^ 32) n undefined_word (omega arith)) (omega (arith, h.at 1), (l, tt)) in
      let run : Short (sets s (sbase s + ltop s + 1) ws) = record { at = words-sets s h.at (sbase s + ltop s + 1) ws (words-all ws all) } in
      short-lbase (short-ltop run (ltop s + n + 2) k) (ltop s + n + 1) (omega arith)

  short-leave : (n : ℕ) (result : Bool) → Short (cond result (leave_with s n) (leave_without s n))
  unfolding leave_with leave_without
  short-leave n true =
      let w = get_or s (sbase s + lbase s - 1) 0 in
      let t = short-ltop (short-drops n (short-share h w) (leaving_start s n)) (lbase s - n) (omega (arith, h.at 1)) in
      short-set (short-lbase t (last_lbase_at s (lbase s) % 2 ^ 16) (omega arith)) (leaving_start s n) w (h.at (sbase s + lbase s - 1))
  short-leave n false =
      short-lbase (short-ltop (short-drops n h (leaving_start s n)) (lbase s - n - 1) (omega (arith, h.at 1))) (last_lbase_at s (lbase s) % 2 ^ 16) (omega arith)

effect-short : (s : List ℕ) → Sound s → Short s → (e : Effect) → Fits s e → is_full s e ≡ false → Small e → Short (perform s e)
unfolding store store_element write_element
effect-short s g h (replaces n source) c f k =
    short-replace h n source (source-ready s source c.1 f k) (perform-theorem s g (replaces n source) c f).sound
effect-short s g h (discards n) c f k = short-discard h n
effect-short s g h swaps c f k = short-swap h
effect-short s g h (stores t source) c f k = short-store h (address_of s t) source (source-ready s source c.1 f k)
effect-short s g h (stores_element t place w n) c f k =
    let a = block_of (unshare s (address_of s t)) (address_of s t) in
    short-replace (short-set (short-unshare h t place w n f) (a + 2 + rank_at (unshare s (address_of s t)) a + place) w k) n (variable t) tt
    (perform-theorem s g (stores_element t place w n) c f).sound
effect-short s g h (enters n v) c f k = short-enter h n v (omega (arith, c, g.own.heap.short)) k
effect-short s g h (leaves n result) c f k = short-leave h n result
effect-short s g h (jumps place) c f k = short-pctr h (place % 2 ^ 16) (omega arith)
effect-short s g h (sets_origin v) c f k = short-iorg h v k

pub effect_words : (s : List ℕ) → Sound s → Words s → (e : Effect) → Fits s e → is_full s e ≡ false → Small e → Words (perform s e)
effect_words s g h e c f k = (effect-short s g (record { at = h }) e c f k).at

-- one after the other
in-turn : (s : List ℕ) → Sound s → Words s → (es : List Effect) → AllServed s es → AllSmall es → Words (performs s es)
in-turn s g h [] c k = h
in-turn s g h (e ∷ es) c k =
    in-turn (perform s e) (perform-theorem s g e c.0 c.1).sound (effect_words s g h e c.0 c.1 k.0) es c.2 k.1

pub effects-words : (s : List ℕ) → Sound s → Words s → (es : List Effect) → AllFit s es → OneRequest es → first_full s es ≡ false → AllSmall es
    → Words (performs s es)
effects-words s g h es fit once room k = in-turn s g h es (all-served s es fit once room) k
