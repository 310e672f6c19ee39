-- The array of a variable that is to be written, by how many cells hold it.
use Prim.Native.Nat.{ℕ, ◌<◌, ◌≤◌}
use mathlib.Core.Path.{◌≡◌, refl, sym, ap, ◌∙◌}
use mathlib.Core.Bool.{Bool, true, false, cond}
use mathlib.Core.List.{List}
use native.Mathlib.Omega.{arith}
use lib.Dec.{leb}
use lib.ListN.{length, take, length-take}
use borrow.Author.Tests.{le-leb, lt-leb}
use Rattle.descriptor.specs.declared.Target.{Target}
use Rattle.segment.specs.Blocks.{count_at, shape_at, elements_at, need}
use Rattle.manual.specs.Effects.{variable, made, Effect, stores, stores_element}
use Rattle.effects.specs.Sources.{address_of}
use Rattle.effects.specs.Perform.{block_of, store, unshare, write_element, replace, store_element, wanted, is_full}
use Rattle.effects.specs.Seen.{whole}
use Rattle.operands.proofs.Whole.{whole-facts}
use Rattle.std.specs.Prelude.{Ok, Err}
use Rattle.trap.specs.declared.Trap.{Trap}
use Rattle.effects_code.specs.Done.{answered, full_or_done, attempt, Held, writing, copied}
use Rattle.effects_code.proofs.Placing.{full-by-need}

-- the words of a list kept at the start of another
module _ (from to : List ℕ) (n : ℕ) (all : n ≡ length from) (front : take (length from) to ≡ from) where
  pub kept-words : take n to ≡ from
  kept-words = rw all front

  pub kept-count : n ≡ length (take n to)
  kept-count = all ∙ ap length (sym kept-words)

  pub kept-fits : n ≤ length to
  kept-fits = omega (arith, simp length-take at kept-count)

module _ (s : List ℕ) (t : Target) (a : ℕ) (held : Held s t a) where
  pub held_whole : whole s a ≡ true
  held_whole = rw held.there held.readable

  -- few lengths, and no more elements than the segment has words
  pub lengths-few : length (shape_at s a) ≤ 16
  lengths-few = let facts = whole-facts s a held_whole in omega arith

  pub elements-few : length s ≤ 16384 → length (elements_at s a) ≤ 16384
  elements-few short = let facts = whole-facts s a held_whole in omega arith

  -- held by no other cell
  pub alone : count_at s a < 2 → (Ok tt ≡ full_or_done s (writing t)) × (s ≡ copied s t)
  unfolding full_or_done copied unshare
  alone few =
      let one : leb 2 (count_at s (block_of s (address_of s t))) ≡ false = rw (← held.there) (lt-leb _ _ few) in
      let room : is_full s (writing t) ≡ false = simp one in
      (rw room, rw room (simp one))

  -- held by another
  abbrev copying : Effect
  copying = stores t (made (shape_at s a) (elements_at s a))

  module _ (shared : 2 ≤ count_at s a) where
    shared-asks : wanted s (writing t) ≡ need (shape_at s a) (elements_at s a)
    shared-asks = rw (← held.there) (simp (le-leb _ _ shared))

    shared-full : is_full s copying ≡ is_full s (writing t)
    shared-full =
        full-by-need s (shape_at s a) (elements_at s a) copying refl
        ∙ sym (full-by-need s (shape_at s a) (elements_at s a) (writing t) shared-asks)

    shared-copy : store s t (made (shape_at s a) (elements_at s a)) ≡ unshare s (address_of s t)
    unfolding unshare store
    shared-copy = rw (← held.there) (simp (le-leb _ _ shared))

    same_answer : full_or_done s copying ≡ full_or_done s (writing t)
    unfolding full_or_done
    same_answer = ap answered shared-full

    same-words : attempt s copying ≡ copied s t
    unfolding attempt copied
    same-words =
        ap (λ (full : Bool). cond full s (store s t (made (shape_at s a) (elements_at s a)))) shared-full
        ∙ ap (λ (after : List ℕ). cond (is_full s (writing t)) s after) shared-copy

    pub copy : (lengths elements : List ℕ) → lengths ≡ shape_at s a → elements ≡ elements_at s a
        → (full_or_done s (stores t (made lengths elements)) ≡ full_or_done s (writing t)) × (attempt s (stores t (made lengths elements)) ≡ copied s t)
    copy lengths elements shape ravel = rw (shape, ravel) (same_answer, same-words)

-- an element stored: full, or written in an array of its own, which is pushed
module _ (s : List ℕ) (t : Target) (at w n : ℕ) where
  abbrev storing : Effect
  storing = stores_element t at w n

  pub element-full : {trap : Trap} → Err trap ≡ full_or_done s (writing t) → (Err trap ≡ full_or_done s storing) × (copied s t ≡ attempt s storing)
  unfolding full_or_done copied attempt
  element-full {trap} full = by-test (is_full s (writing t)) full
    where
      by-test : (b : Bool) → Err trap ≡ answered b → (Err trap ≡ answered b) × (cond b s (unshare s (address_of s t)) ≡ cond b s (store_element s t at w n))
      by-test true e = (e, refl)
      by-test false e = (cc, cc)

  pub element-done : {done : Unit} → Ok done ≡ full_or_done s (writing t) → (Ok done ≡ full_or_done s storing) × (replace (write_element (copied s t) (address_of s t) at w) n (variable t) ≡ attempt s storing)
  unfolding full_or_done copied attempt store_element
  element-done {done} served = by-test (is_full s (writing t)) served
    where
      by-test : (b : Bool) → Ok done ≡ answered b → (Ok done ≡ answered b) × (replace (write_element (cond b s (unshare s (address_of s t))) (address_of s t) at w) n (variable t) ≡ cond b s (replace (write_element (unshare s (address_of s t)) (address_of s t) at w) n (variable t)))
      by-test true e = (cc, cc)
      by-test false e = (e, refl)
