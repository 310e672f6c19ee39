-- An effect that asks for a block for an array, as the code meets it: more asked for than the longest segment has, no block
-- found, or a block, whose address fits a descriptor in a segment of 32-bit words.
use Rattle.std.specs.Prelude.{Some, None}
use Prim.Native.Nat.{ℕ, zero, suc, ◌+◌, ◌-◌, ◌^◌, ◌<◌, ◌≤◌}
use mathlib.Core.Path.{◌≡◌, refl, ◌∙◌}
use mathlib.Core.Bool.{Bool, true, false, cond, ◌||◌}
use mathlib.Core.List.{List}
use native.Mathlib.Omega.{arith}
use mir.Syntax.{w32}
use mir.Val.{Fits}
use lib.ListN.{get_or, set, length}
use lib.Dec.{ltb, leb, eqb}
use borrow.Author.Tests.{eq-eqb, ne_eqb, lt-ltb, le-ltb}
use Rattle.descriptor.specs.declared.Target.{Target}
use Rattle.descriptor.specs.declared.address.SegmentAddress.{SegmentAddress}
use Rattle.descriptor.specs.Fields.{array_word}
use Rattle.segment.specs.State.{rover}
use Rattle.segment.specs.Blocks.{size_at, next_at, need}
use Rattle.storage.specs.Found.{found}
use Rattle.storage.specs.Request.{find_from, find, given, request_at}
use Rattle.storage.specs.Arrays.{place, place_at, drop_word, drop_words}
use Rattle.storage.proofs.Requests.{full-zero, at_some}
use Rattle.manual.specs.Effects.{made, Effect}
use Rattle.effects.specs.Sources.{address_of, held_at}
use Rattle.effects.specs.Perform.{bottom_of, finish, replace, store_at, store, perform, wanted, none_for, is_full}
use Rattle.std.specs.Prelude.{Ok, Err}
use Rattle.trap.specs.Trap.{trap_of}
use Rattle.effects_code.specs.Done.{full_or_done, attempt}

-- an effect by whether there is room
module _ (s : List ℕ) (e : Effect) where
  kept : is_full s e ≡ true → (Err (trap_of 1 2) ≡ full_or_done s e) × (s ≡ attempt s e)
  unfolding full_or_done attempt
  kept full = (rw full, rw full)

  done : is_full s e ≡ false → (Ok tt ≡ full_or_done s e) × (perform s e ≡ attempt s e)
  unfolding full_or_done attempt
  done room = (rw room, rw room)

-- the effect asks for a block for this array
module _ (s shape ravel : List ℕ) (e : Effect) (asks : wanted s e ≡ need shape ravel) where
  pub full-by-need : is_full s e ≡ none_for s (need shape ravel)
  full-by-need = rw asks (simp (ne_eqb (need shape ravel) 0 (λ none. omega arith)))

  pub long_kept : 16384 < need shape ravel → (Err (trap_of 1 2) ≡ full_or_done s e) × (s ≡ attempt s e)
  long_kept more = kept s e (full-by-need ∙ simp (lt-ltb _ _ more))

  pub none_kept : found (place_at s shape ravel) ≡ None → (Err (trap_of 1 2) ≡ full_or_done s e) × (place s shape ravel ≡ attempt s e)
  unfolding place place_at
  none_kept none =
      let still = kept s e (full-by-need ∙ by-test (ltb 16384 (need shape ravel))) in
      (still.0, simp (eq-eqb _ _ (full-zero _ none)) still.1)
    where
      by-test : (b : Bool) → (b || eqb (request_at s (need shape ravel)) 0) ≡ true
      by-test true = refl
      by-test false = eq-eqb _ _ (full-zero _ none)

  pub found-done : (block : SegmentAddress) → need shape ravel ≤ 16384 → found (place_at s shape ravel) ≡ Some block
      → (Ok tt ≡ full_or_done s e) × (perform s e ≡ attempt s e)
  unfolding place_at
  found-done block little at = done s e (full-by-need ∙ simp (le-ltb _ _ little, ne_eqb _ _ (at_some _ block at).0))

-- the words after a block is found
module _ (s shape ravel : List ℕ) (block : SegmentAddress) (at : found (place_at s shape ravel) ≡ Some block) where
  pub replace-block : (n : ℕ) → finish (drop_words n (place s shape ravel) (bottom_of s n)) (bottom_of s n) (array_word block.0) ≡ replace s n (made shape ravel)
  unfolding replace
  replace-block n = rw (← (at_some _ block at).1)

  pub store-block : (t : Target) → drop_word (set (place s shape ravel) (address_of s t) (array_word block.0)) (held_at s t) ≡ store s t (made shape ravel)
  unfolding store store_at
  store-block t = rw (← (at_some _ block at).1)

-- an address found along links of 16 bits
cond_below : (k : ℕ) (b : Bool) (x y : ℕ) → x < k → y < k → cond b x y < k
cond_below k true x y hx hy = hx
cond_below k false x y hx hy = hy

module _ (s : List ℕ) (words : (i : ℕ) → Fits w32 (get_or s i 0)) where
  from-below : (fuel size stop at : ℕ) → at < 2 ^ 16 → find_from fuel s size stop at < 2 ^ 16
  unfolding find_from
  from-below zero size stop at low = omega arith
  from-below (suc fuel) size stop at low =
      let next : next_at s at < 2 ^ 16 = omega (arith, words (at + 1)) in
      cond_below (2 ^ 16) (leb size (size_at s at)) _ _ low
      (cond_below (2 ^ 16) (eqb (next_at s at) stop) 0 _ (omega arith) (from-below fuel size stop (next_at s at) next))

  find-below : (size : ℕ) → find s size < 2 ^ 16
  unfolding find
  find-below size = from-below (length s) size (rover s) (rover s) (omega arith)

  given_below : (f size : ℕ) → f < 2 ^ 16 → given s f size < 2 ^ 17
  unfolding given
  given_below f size low = cond_below (2 ^ 17) (leb (size + 3) (size_at s f)) (f + (size_at s f - size)) f (omega arith) (omega arith)

  request-below : (size : ℕ) → request_at s size < 2 ^ 17
  unfolding request_at
  request-below size = cond_below (2 ^ 17) (eqb (find s size) 0) 0 _ (omega arith) (given_below (find s size) size (find-below size))

  pub block-below : (shape ravel : List ℕ) (block : SegmentAddress) → found (place_at s shape ravel) ≡ Some block → block.0 < 2 ^ 24
  unfolding place_at
  block-below shape ravel block at = omega (arith, request-below (need shape ravel), (at_some _ block at).1)
