-- An element of a variable's array written anew: first the variable gets an array of its own.
use Prim.Native.Nat.{ℕ, ◌+◌, ◌%◌, ◌^◌, ◌<◌, ◌≤◌}
use mathlib.Core.Path.{◌≡◌, refl, sym, ◌∙◌, ap}
use mathlib.Core.Bool.{Bool, true, false, cond}
use mathlib.Core.List.{List}
use mathlib.Core.Logic.{◌≢◌, ◌⊎◌, inr, ⊎_elim}
use native.Mathlib.Omega.{arith}
use lib.ListN.{get_or, set, length}
use lib.Dec.{leb}
use borrow.Author.Tests.{leb-true, leb-false}
use Rattle.descriptor.specs.declared.Target.{Target}
use Rattle.descriptor.specs.declared.Target.TheVariants.{Local, Global}
use Rattle.descriptor.specs.Fields.{array_word}
use Rattle.descriptor.specs.Kinds.{is_scalar}
use Rattle.segment.specs.State.{sbase, blockptr}
use Rattle.segment.specs.Blocks.{count_at, rank_at, shape_at, elements_at, product, need}
use Rattle.segment.specs.Cells.{Cell, undefined, value, cell}
use Rattle.storage.specs.Arrays.{place_at}
use Rattle.storage.specs.Heap.{hit, count}
use Rattle.storage.specs.Owned.{ArrayIn, Inside, Proper}
use Rattle.segment.specs.Machine.{Machine, map_machine, all_cells}
use Rattle.segment.specs.View.{words, owners, view}
use Rattle.segment.proofs.Runs.{part_length}
use Rattle.manual.specs.Effects as manual
use Rattle.storage_theorems.proofs.Counts.{hit-eq, hit_same, hit-cases}
use Rattle.storage_theorems.specs.Element.{set_element, ElementSet}
use Rattle.storage_theorems.specs.Place.{NewArray}
use Rattle.storage_theorems.proofs.Cells.{cell-array, cell_other}
use Rattle.storage_theorems.specs.Request.{Served}
use Rattle.storage_theorems.proofs.Request.{request-theorem}
use Rattle.storage_theorems.proofs.Place.{fresh-place, place-theorem}
use Rattle.storage_theorems.proofs.Element.{element-theorem}
use Rattle.manual.specs.Effects.{AddressableIn}
use Rattle.manual.proofs.Cellwise.{put_map, put-twice, look-put, in-put}
use Rattle.effects.specs.Sources.{address_of, held_at, placed}
use Rattle.effects.specs.Perform.{replace, store_at, unshare, write_element, store_element}
use Rattle.effects.specs.Sound.{Sound}
use Rattle.effects.specs.Fits.{Addressable, CanReplace}
use Rattle.effects_theorems.proofs.StateWords.{state-none, state-on, state-step}
use Rattle.frame_theorems.proofs.Counts.{machine-agree, count-put}
use Rattle.frame_theorems.proofs.Frames.{chain_same, words-kept}
use Rattle.effects_theorems.proofs.Sound.{Bounds, bounds, Regs, kept-regs, Done, InPlace}
use Rattle.effects_theorems.proofs.Variables.{same-put, variable-owner, in-view}
use Rattle.effects_theorems.proofs.Sources.{Put, put-source}
use Rattle.effects_theorems.proofs.Store.{stored-word, stored-this, stored}
use Rattle.effects_theorems.proofs.Replace.{finish-done}

-- a word that stands in one cell only is seen anew there, and all else as before
seen-once : (f g : ℕ → Cell) (m : Machine ℕ) (t : Target) (w n : ℕ) → AddressableIn t m → manual.put t w m ≡ m → count w (all_cells m) ≡ 1 → w ≢ n → f n ≡ g n
    → ((v : ℕ) → v ≢ w → 0 < count v (all_cells m) → f v ≡ g v) → map_machine f m ≡ manual.put t (f w) (map_machine g m)
seen-once f g m t w n at e one d fn same =
    ap (map_machine f) (sym e ∙ sym (put-twice t n w m))
    ∙ put_map f t w (manual.put t n m)
    ∙ ap (manual.put t (f w)) (machine-agree f g (manual.put t n m) agree ∙ put_map g t n m)
    ∙ put-twice t (g n) (f w) (map_machine g m)
  where
    law : (x : ℕ) → count x (all_cells (manual.put t n m)) + hit x w ≡ count x (all_cells m) + hit x n
    law x = count-put x t m n w at ∙ ap (λ (q : Machine ℕ). count x (all_cells q) + hit x n) e

    agree : (v : ℕ) → 0 < count v (all_cells (manual.put t n m)) → f v ≡ g v
    agree v c =
        ⊎_elim (λ q. rw q.0 fn)
        (λ q. same v (λ z. omega (arith, c, q, one, law v, hit-eq v w z, ap (λ (y : ℕ). count y (all_cells m)) z)) (omega (arith, c, q, law v)))
        (hit-cases v n)

-- a store to an element of the array that a variable alone points to
module _ (s : List ℕ) (g : Sound s) (t : Target) (at : Addressable s t) (x : ℕ) (is : held_at s t ≡ array_word x) (small : x < 2 ^ 16)
    (alone : count_at s x ≡ 1) (k v : ℕ) (in-range : k < product (shape_at s x)) (ok : is_scalar v ≡ true) where
  named : (size : ℕ) × ArrayIn (blockptr s) g.own.blocks x size
  named = g.own.named x small (rw is at (variable-owner s g t at))

  abbrev e' : List ℕ
  e' = set_element s x k v

  element : ElementSet s (owners s) x k v
  element = element-theorem g.own x named.0 named.1 k v in-range ok

  low : Bounds s
  low = bounds g

  regs : Regs s e'
  regs = kept-regs element.kept low.low

  element-words : words e' ≡ words s
  element-words = words-kept s e' element.kept low.low (omega (arith, low))

  element-view : view e' ≡ manual.put t (value (shape_at s x) (set (elements_at s x) k v)) (view s)
  unfolding view
  element-view =
      ap (map_machine (cell e')) element-words
      ∙ seen-once (cell e') (cell s) (words s) t (array_word x) 0 at (rw is at (same-put s g t at))
      (omega (arith, g.own.counts x named.0 named.1, alone)) (omega arith) (cell_other s e' 0 refl) element.others
      ∙ ap (λ (c : Cell). manual.put t c (map_machine (cell s) (words s))) element.this

  element-sound : Sound e'
  element-sound = record {
    own = rw element-words element.own;
    fits = omega (arith, regs, g.fits);
    above = omega (arith, regs, g.above);
    chain = rw regs.frame (chain_same e' g.chain regs.base (λ j l h. element.kept.rest j (omega (arith, low)) (inr l)));
  }

  element-in-place : InPlace s e' (words s) (manual.put t (value (shape_at s x) (set (elements_at s x) k v)) (view s))
  element-in-place =
      record { done = record { sound = element-sound; seen = element-view; state = state-step element.kept low.low }; regs = regs; held = element-words }

-- a variable that alone points to its array
record Lone (s s' : List ℕ) (t : Target) (x : ℕ) : Type 0 where
  done : Done s s' (view s)
  there : Addressable s' t
  regs : Regs s s'
  y : ℕ
  small : y < 2 ^ 16
  holds : held_at s' t ≡ array_word y
  alone : count_at s' y ≡ 1
  shape : shape_at s' y ≡ shape_at s x
  elements : elements_at s' y ≡ elements_at s x

-- by the two ways of a test on a count
lone-ways : (s : List ℕ) (t : Target) (x limit n : ℕ) (p q : List ℕ) → (limit ≤ n → Lone s p t x) → (n < limit → Lone s q t x)
    → Lone s (cond (leb limit n) p q) t x
lone-ways s t x limit n p q f g = go (leb limit n) (leb-true limit n) (leb-false limit n)
  where
    go : (b : Bool) → (b ≡ true → limit ≤ n) → (b ≡ false → n < limit) → Lone s (cond b p q) t x
    go true k l = f (k refl)
    go false k l = g (l refl)

shape_of : (a b c d : List ℕ) → value a b ≡ value c d → a ≡ c
shape_of a b c d e = cc

elements-of : (a b c d : List ℕ) → value a b ≡ value c d → b ≡ d
elements-of a b c d e = cc

pub same_address : (s s' : List ℕ) → sbase s' ≡ sbase s → (t : Target) → address_of s' t ≡ address_of s t
same_address s s' e (Global g) = refl
same_address s s' e (Local a) = rw e

module _ (s : List ℕ) (g : Sound s) (t : Target) (at : Addressable s t) (x : ℕ) (is : held_at s t ≡ array_word x) (small : x < 2 ^ 16) where
  named' : (size : ℕ) × ArrayIn (blockptr s) g.own.blocks x size
  named' = g.own.named x small (rw is at (variable-owner s g t at))

  inside : Inside s x named'.0
  inside = g.own.inside x named'.0 named'.1

  long-shape : length (shape_at s x) ≡ rank_at s x
  unfolding shape_at
  long-shape = part_length s (x + 2) (rank_at s x)

  long-elements : length (elements_at s x) ≡ product (shape_at s x)
  unfolding elements_at
  long-elements = part_length s (x + 2 + rank_at s x) (product (shape_at s x))

  -- an array that stands in storage may be placed again
  pub array-proper : Proper (shape_at s x) (elements_at s x)
  array-proper = record {
    rank = (omega (arith, long-shape, inside.rank), omega (arith, long-shape));
    size = sym long-elements;
    lengths = inside.lengths;
    scalars = inside.scalars;
  }

  value-now : manual.put t (value (shape_at s x) (elements_at s x)) (view s) ≡ view s
  unfolding view
  value-now =
      ap (λ (c : Cell). manual.put t c (map_machine (cell s) (words s))) (sym (cell-array s x small))
      ∙ sym (put_map (cell s) t (array_word x) (words s)) ∙ ap (map_machine (cell s)) (rw is at (same-put s g t at))

  lone-here : count_at s x < 2 → Lone s s t x
  lone-here h = record {
    done = record { sound = g; seen = refl; state = state-none s };
    there = at;
    regs = record { base = refl; top = refl; frame = refl; start = refl; long = refl };
    y = x;
    small = small;
    holds = is;
    alone = omega (arith, h, g.own.counts x named'.0 named'.1);
    shape = refl;
    elements = refl;
  }

  module _ (found : place_at s (shape_at s x) (elements_at s x) ≢ 0) where
    abbrev y : ℕ
    y = place_at s (shape_at s x) (elements_at s x)

    abbrev source : manual.Source
    source = manual.made (shape_at s x) (elements_at s x)

    abbrev s1 : List ℕ
    s1 = store_at s (address_of s t) source

    new : NewArray s (owners s) (shape_at s x) (elements_at s x)
    new = (place-theorem (shape_at s x) (elements_at s x) g.own array-proper).new found

    first : Put s (owners s) (placed s source) (array_word y) (value (shape_at s x) (elements_at s x))
    first = put-source s g source array-proper found

    served : Served s g.own.blocks (need (shape_at s x) (elements_at s x))
    unfolding place_at
    served = (request-theorem (need (shape_at s x) (elements_at s x)) g.own.heap (omega (arith, array-proper.rank))).served found

    y-small : y < 2 ^ 16
    unfolding place_at
    y-small = omega (arith, fresh-place g.own (shape_at s x) (elements_at s x) array-proper served)

    in_place : InPlace s s1 (manual.put t (array_word y) (words s)) (manual.put t (value (shape_at s x) (elements_at s x)) (view s))
    unfolding store_at
    in_place = stored s g t at (array_word y) (value (shape_at s x) (elements_at s x)) (placed s source) first

    once : count (array_word y) (owners s1) ≡ 1
    once =
        let u = new.unowned in
        let d : hit (array_word y) (array_word x) ≡ 0 = ⊎_elim
        (λ e. absurd (omega (arith, u, variable-owner s g t at, ap (λ (v : ℕ). count v (owners s)) (is ∙ sym e.0)))) (λ e. e.1)
        (hit-cases (array_word y) (array_word x)) in
        omega (
          arith,
          ap (λ (m : Machine ℕ). count (array_word y) (all_cells m)) in_place.held,
          count-put (array_word y) t (words s) (array_word y) (array_word x) at,
          hit_same (array_word y),
          d,
          u,
          ap (λ (m : Machine ℕ). count (array_word y) (all_cells m)) (rw is at (same-put s g t at)),
        )

    this : value (shape_at s1 y) (elements_at s1 y) ≡ value (shape_at s x) (elements_at s x)
    unfolding store_at
    this =
        sym (cell-array s1 y y-small) ∙ stored-this s g t at (array_word y) (value (shape_at s x) (elements_at s x)) (placed s source) first

    holds1 : held_at s1 t ≡ array_word y
    unfolding store_at
    holds1 =
        ap (λ (j : ℕ). get_or s1 j 0) (same_address s s1 in_place.regs.base t)
        ∙ stored-word s g t at (array_word y) (value (shape_at s x) (elements_at s x)) (placed s source) first

    lone-copy : Lone s s1 t x
    lone-copy =
        let sound = in_place.done.sound in
        let n = sound.own.named y y-small (omega (arith, once)) in
        record {
          done = record { sound = sound; seen = in_place.done.seen ∙ value-now; state = in_place.done.state };
          there = rw in_place.held ((in-put (array_word y) t t (words s)).0 at);
          regs = in_place.regs;
          y = y;
          small = y-small;
          holds = holds1;
          alone = omega (arith, once, sound.own.counts y n.0 n.1);
          shape = shape_of _ _ _ _ this;
          elements = elements-of _ _ _ _ this;
        }

  -- the variable has an array of its own, whether or not it had to be copied
  lone : (count_at s x < 2) ⊎ (place_at s (shape_at s x) (elements_at s x) ≢ 0) → Lone s (unshare s (address_of s t)) t x
  unfolding unshare
  lone h =
      let e : array_word x % 2 ^ 16 ≡ x = omega arith in
      rw (is, e)
      (lone-ways s t x _ _ _ _ copy lone-here)
    where
      copy : 2 ≤ count_at s x → Lone s (store_at s (address_of s t) (manual.made (shape_at s x) (elements_at s x))) t x
      copy k = ⊎_elim (λ l. absurd (omega (arith, l))) lone-copy h

  -- the element is written in the variable's value and in no other, and that value is pushed
  module _ (k v n : ℕ) (in-range : k < product (shape_at s x)) (ok : is_scalar v ≡ true)
      (had : (count_at s x < 2) ⊎ (place_at s (shape_at s x) (elements_at s x) ≢ 0)) (can : CanReplace s n) where
    abbrev after : Cell
    after = value (shape_at s x) (set (elements_at s x) k v)

    module _ (t1 : List ℕ) (q : Lone s t1 t x) where
      abbrev t2 : List ℕ
      t2 = set_element t1 q.y k v

      range1 : k < product (shape_at t1 q.y)
      range1 = rw q.shape in-range

      written : InPlace t1 t2 (words t1) (manual.put t (value (shape_at t1 q.y) (set (elements_at t1 q.y) k v)) (view t1))
      written = element-in-place t1 q.done.sound t q.there q.y q.holds q.small q.alone k v range1 ok

      view2 : view t2 ≡ manual.put t after (view s)
      view2 = written.done.seen ∙ rw (q.shape, q.elements, q.done.seen)

      sound2 : Sound t2
      sound2 = written.done.sound

      there2 : Addressable t2 t
      there2 = rw written.held q.there

      can2 : CanReplace t2 n
      can2 = record { taken = omega (arith, can, written.regs, q.regs); room = omega (arith, can, written.regs, q.regs) }

      first2 : Put t2 (owners t2) (placed t2 (manual.variable t)) (held_at t2 t) (manual.look undefined t (view t2))
      first2 = put-source t2 sound2 (manual.variable t) there2 tt

      pushed : manual.look undefined t (view t2) ≡ after
      pushed = rw view2 (look-put undefined after t (view s) ((in-view s t).0 at))

      replaced : Done t2 (replace t2 n (manual.variable t)) (manual.replace n (manual.look undefined t (view t2)) (view t2))
      unfolding replace
      replaced = finish-done t2 sound2 n (held_at t2 t) (manual.look undefined t (view t2)) (placed t2 (manual.variable t)) first2 can2

      done3 : Done s (replace t2 n (manual.variable t)) (manual.replace n after (manual.put t after (view s)))
      done3 = record {
        sound = replaced.sound;
        seen = replaced.seen ∙ rw (pushed, view2);
        state = state-on q.done.state (state-on written.done.state replaced.state);
      }

      written_is : write_element t1 (address_of s t) k v ≡ t2
      unfolding write_element
      written_is =
          let e : array_word q.y % 2 ^ 16 ≡ q.y = omega (arith, q.small) in
          let h : get_or t1 (address_of s t) 0 ≡ array_word q.y = ap (λ (j : ℕ). get_or t1 j 0) (sym (same_address s t1 q.regs.base t)) ∙ q.holds in
          rw (h, e)

    -- with the element written, the segment is sound, the operands are there and so is the variable
    pub element-written : Sound (write_element (unshare s (address_of s t)) (address_of s t) k v)
        × CanReplace (write_element (unshare s (address_of s t)) (address_of s t) k v) n
        × Addressable (write_element (unshare s (address_of s t)) (address_of s t) k v) t
    element-written =
        let q = lone had in
        let u = unshare s (address_of s t) in
        rw (written_is u q) (sound2 u q, can2 u q, there2 u q)

    pub stored-element : Done s (store_element s t k v n) (manual.replace n after (manual.put t after (view s)))
    unfolding store_element
    stored-element = let q = lone had in rw (written_is (unshare s (address_of s t)) q) (done3 (unshare s (address_of s t)) q)
