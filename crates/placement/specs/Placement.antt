-- The rules of placement. Document 01, "Data segment": "A request searches from ROVER along NEXT for the first SIZE that suffices.
-- With 3 or more over, the high end is given and the free block shrinks; else all, the rest being slop. ROVER becomes the found
-- block's NEXT. Release joins free neighbours: the merged block keeps the earlier free block's ring place, else the later's; ROVER
-- on a vanished block moves to the merged one. Joining none, it goes in after the dummy. Results are placed before operands are
-- released, first operand first; RETURN releases its cells from the highest address down."
-- Each sentence is a field of `Placement`, in that order, and speaks of the ring as a list. A reader must believe: `RingFrom` is the
-- ring, and the fields say what the sentences say. Proved in proofs/Placement. Assumes nothing.
use Rattle.std.specs.Prelude.{ℕ, zero, suc, ◌+◌, ◌-◌, ◌%◌, ◌^◌, ◌≤◌, ◌<◌, ◌≡◌, true, false, ◌≢◌, List, [], ◌∷◌, ◌++◌, get_or, set}
use Rattle.descriptor.specs.declared.Target.{Target}
use Rattle.segment.specs.State.{sbase, ltop, lbase, rover, blockptr, set_ltop, set_lbase}
use Rattle.segment.specs.Blocks.{free_at, slop_at, size_at, span_at, next_at, dummy}
use Rattle.segment.specs.Stack.{last_lbase_at, downward}
use Rattle.storage.specs.Request.{request, request_at}
use Rattle.storage.specs.Release.{release}
use Rattle.storage.specs.Arrays.{share, drop_word, drop_words}
use Rattle.storage.specs.Heap.{Block, frees, count, Links, Heap}
use Rattle.storage.specs.Owned.{ArrayIn, Owned}
use Rattle.manual.specs.Effects.{Source, variable, replaces, discards, stores, stores_element, leaves}
use Rattle.effects.specs.Sources.{address_of, held_at, operand_at, source_word, placed}
use Rattle.effects.specs.Perform.{bottom_of, leaving_start, finish, unshare, write_element, perform, is_full}
use Rattle.effects.specs.Sound.{Sound}
use Rattle.effects.specs.Fits.{Fits}

-- ---- the ring

-- The ring read from `a` is the list `l`: `a` comes first, NEXT leads from each member to the one behind it and from the last to
-- `a`, LAST leads back, and no member stands twice.
pub record RingFrom (s : List ℕ) (a : ℕ) (l : List ℕ) : Type 0 where
  pub others : List ℕ
  pub starts : l ≡ a ∷ others
  pub links : Links s a others a
  pub once : (x : ℕ) → count x l ≤ 1

-- A free block stands at `f`; one ends where the block at `x` starts; where the block behind the one at `x` starts.
abbrev pub IsFree : List ℕ → List Block → ℕ → Type 0
IsFree s blocks f = 0 < count f (frees (blockptr s) blocks)

abbrev pub FreeBefore : List ℕ → List Block → ℕ → ℕ → Type 0
FreeBefore s blocks p x = IsFree s blocks p × (p + size_at s p ≡ x)

abbrev pub behind : List ℕ → ℕ → ℕ
behind s x = x + span_at s x

-- ---- a request

-- "A request searches from ROVER along NEXT for the first SIZE that suffices." The dummy's SIZE is 0.
pub record Found (s : List ℕ) (blocks : List Block) (ring : List ℕ) (size : ℕ) : Type 0 where
  pub block : ℕ
  pub before : List ℕ
  pub after : List ℕ
  pub place : rover s ∷ ring ≡ before ++ (block ∷ after)
  pub passed : (x : ℕ) → 0 < count x before → size_at s x < size
  pub suffices : size ≤ size_at s block
  pub is_free : IsFree s blocks block

-- "With 3 or more over, the high end is given and the free block shrinks": `f` stays a free block, shorter by what is given.
pub record HighEnd (s : List ℕ) (size f : ℕ) : Type 0 where
  pub starts : request_at s size ≡ f + (size_at s f - size)
  pub sized : size_at (request s size) (request_at s size) ≡ size
  pub slop : slop_at (request s size) (request_at s size) ≡ 0
  pub stays : free_at (request s size) f ≡ true
  pub shrinks : size_at (request s size) f ≡ size_at s f - size

-- "else all, the rest being slop."
pub record Entire (s : List ℕ) (size f : ℕ) : Type 0 where
  pub starts : request_at s size ≡ f
  pub sized : size_at (request s size) f ≡ size
  pub slop : slop_at (request s size) f ≡ size_at s f - size

pub record Given (s : List ℕ) (size f : ℕ) : Type 0 where
  pub high_end : size + 3 ≤ size_at s f → HighEnd s size f
  pub entire : size_at s f < size + 3 → Entire s size f

-- "ROVER becomes the found block's NEXT." The ring read from there is the old one, turned to start behind `f`: with `f` last where it
-- was split, and without it where it was given entire.
pub record Turned (s : List ℕ) (size f : ℕ) (before after : List ℕ) : Type 0 where
  pub next : rover (request s size) ≡ next_at s f
  pub keeps : size + 3 ≤ size_at s f → RingFrom (request s size) (rover (request s size)) (after ++ (before ++ (f ∷ [])))
  pub leaves : size_at s f < size + 3 → RingFrom (request s size) (rover (request s size)) (after ++ before)

-- ---- a release

-- "ROVER on a vanished block moves to the merged one", and stays anywhere else.
pub record Moves (s after : List ℕ) (vanished merged : ℕ) : Type 0 where
  pub moved : rover s ≡ vanished → rover after ≡ merged
  pub stays : rover s ≢ vanished → rover after ≡ rover s

-- In the ring read from the dummy, once `members` behind it, `new` stands where `old` stood, and every other member where it was.
pub record InPlaceOf (s after members : List ℕ) (old : ℕ) (new : List ℕ) : Type 0 where
  pub earlier : List ℕ
  pub later : List ℕ
  pub was : members ≡ earlier ++ (old ∷ later)
  pub is : RingFrom after (dummy s) (dummy s ∷ (earlier ++ (new ++ later)))

-- The four ways of a release of the array at `x`. "Release joins free neighbours: the merged block keeps the earlier free block's ring
-- place": where both neighbours are free the later leaves the ring; "else the later's": the array's address stands in the later's
-- place; "Joining none, it goes in after the dummy."
pub data Released (s : List ℕ) (blocks : List Block) (x : ℕ) (members : List ℕ) : Type 0 where
  joins_both : (p : ℕ) → FreeBefore s blocks p x → IsFree s blocks (behind s x)
      → InPlaceOf s (release s x) members (behind s x) [] → Moves s (release s x) (behind s x) p → Released s blocks x members
  joins_earlier : (p : ℕ) → FreeBefore s blocks p x → (IsFree s blocks (behind s x) → ⊥)
      → RingFrom (release s x) (dummy s) (dummy s ∷ members) → rover (release s x) ≡ rover s → Released s blocks x members
  joins_later : ((p : ℕ) → FreeBefore s blocks p x → ⊥) → IsFree s blocks (behind s x)
      → InPlaceOf s (release s x) members (behind s x) (x ∷ []) → Moves s (release s x) (behind s x) x → Released s blocks x members
  joins_none : ((p : ℕ) → FreeBefore s blocks p x → ⊥) → (IsFree s blocks (behind s x) → ⊥)
      → RingFrom (release s x) (dummy s) (dummy s ∷ (x ∷ members)) → rover (release s x) ≡ rover s → Released s blocks x members

-- ---- the order of releases

-- The words are dropped one after the other, the first of the list first.
abbrev pub drop_each : List ℕ → List ℕ → List ℕ
drop_each s [] = s
drop_each s (w ∷ ws) = drop_each (drop_word s w) ws

-- `n` operands from the i-th on. The first, the 0th, is the top of the stack.
abbrev pub operands_from : List ℕ → ℕ → ℕ → List ℕ
operands_from s i zero = []
operands_from s i (suc n) = operand_at s i ∷ operands_from s (i + 1) n

-- "Results are placed before operands are released, first operand first".
abbrev pub replaced_in_order : List ℕ → ℕ → Source → List ℕ
replaced_in_order s n source = finish (drop_each (placed s source) (operands_from s 0 n)) (bottom_of s n) (source_word s source)

-- A variable's new value is placed and stored before the old one, the word that stood there, is dropped.
abbrev pub stored_in_order : List ℕ → Target → Source → List ℕ
stored_in_order s t source = drop_word (set (placed s source) (address_of s t) (source_word s source)) (held_at s t)

-- ASSIGN_INDEXED: a shared array is copied, the element is written, and then the variable's value takes the place of the operands.
abbrev pub element_stored_in_order : List ℕ → Target → ℕ → ℕ → ℕ → List ℕ
element_stored_in_order s t place w n = replaced_in_order (write_element (unshare s (address_of s t)) (address_of s t) place w) n (variable t)

abbrev pub discarded_in_order : List ℕ → ℕ → List ℕ
discarded_in_order s n = set_ltop (drop_each s (operands_from s 0 n)) (ltop s - n)

-- "RETURN releases its cells from the highest address down": `downward s a n` are the words in the cells from `a + n - 1` down to
-- `a`. The result, the frame's highest cell, is shared first.
abbrev pub result_word : List ℕ → ℕ
result_word s = get_or s (sbase s + lbase s - 1) 0

abbrev pub left_in_order : List ℕ → ℕ → List ℕ
left_in_order s n =
    set
    (set_lbase (set_ltop (drop_each (share s (result_word s)) (downward s (leaving_start s n) n)) (lbase s - n)) (last_lbase_at s (lbase s) % 2 ^ 16))
    (leaving_start s n)
    (result_word s)

abbrev pub left_without_in_order : List ℕ → ℕ → List ℕ
left_without_in_order s n =
    set_lbase (set_ltop (drop_each s (downward s (leaving_start s n) n)) (lbase s - n - 1)) (last_lbase_at s (lbase s) % 2 ^ 16)

-- ---- the theorem

pub record Placement : Type 0 where
  -- The ring of a heap is the ring read from ROVER; read from a block, it is one list only.
  pub ring : (s : List ℕ) (blocks : List Block) (ring : List ℕ) → Heap s blocks ring → RingFrom s (rover s) (rover s ∷ ring)
  pub one : (s : List ℕ) (a : ℕ) (l m : List ℕ) → RingFrom s a l → RingFrom s a m → l ≡ m
  -- A request that is served: where the block is found, what is given of it, and ROVER and the ring afterwards.
  pub found : (s : List ℕ) (blocks : List Block) (ring : List ℕ) (size : ℕ) → Heap s blocks ring → 3 ≤ size → request_at s size ≢ 0
      → Found s blocks ring size
  pub given : (s : List ℕ) (blocks : List Block) (ring : List ℕ) (size : ℕ) → Heap s blocks ring → 3 ≤ size → (here : Found s blocks ring size)
      → Given s size here.block
  pub turned : (s : List ℕ) (blocks : List Block) (ring : List ℕ) (size : ℕ) → Heap s blocks ring → 3 ≤ size → (here : Found s blocks ring size)
      → Turned s size here.block here.before here.after
  -- A release of an array: the ring can be read from the dummy, and it is afterwards as the four ways say.
  pub dummy_in : (s : List ℕ) (blocks : List Block) (ring : List ℕ) → Heap s blocks ring
      → (members : List ℕ) × RingFrom s (dummy s) (dummy s ∷ members)
  pub released : (s : List ℕ) (blocks : List Block) (ring : List ℕ) (x size : ℕ) → Heap s blocks ring → ArrayIn (blockptr s) blocks x size
      → (members : List ℕ) → RingFrom s (dummy s) (dummy s ∷ members) → Released s blocks x members
  -- Cells of the stack are dropped from the highest down, each by the word that stood in it before any was dropped.
  pub downwards : (s owners : List ℕ) (n a : ℕ) → Owned s (downward s a n ++ owners) → sbase s ≤ a → drop_words n s a ≡ drop_each s (downward s a n)
  -- So an effect places or shares its result, and then drops.
  pub replaced : (s : List ℕ) → Sound s → (n : ℕ) (source : Source) → Fits s (replaces n source) → is_full s (replaces n source) ≡ false
      → perform s (replaces n source) ≡ replaced_in_order s n source
  pub stored : (s : List ℕ) (t : Target) (source : Source) → perform s (stores t source) ≡ stored_in_order s t source
  pub stored_element : (s : List ℕ) → Sound s → (t : Target) (place w n : ℕ) → Fits s (stores_element t place w n)
      → is_full s (stores_element t place w n) ≡ false → perform s (stores_element t place w n) ≡ element_stored_in_order s t place w n
  pub discarded : (s : List ℕ) → Sound s → (n : ℕ) → Fits s (discards n) → perform s (discards n) ≡ discarded_in_order s n
  pub left : (s : List ℕ) → Sound s → (n : ℕ) → Fits s (leaves n true) → perform s (leaves n true) ≡ left_in_order s n
  pub left_without : (s : List ℕ) → Sound s → (n : ℕ) → Fits s (leaves n false) → perform s (leaves n false) ≡ left_without_in_order s n
