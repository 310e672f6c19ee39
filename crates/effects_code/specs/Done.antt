-- Effects as the code does them: a result that is there already, by its word; and an effect that asks for a block, done, or full
-- and nothing changed. proofs/Carrying has the laws that instructions go by. Assumes nothing.
use Rattle.std.specs.Prelude.{ℕ, ◌≡◌, Bool, true, cond, List, ◌++◌, set, Result, Ok, Err}
use Rattle.trap.specs.Trap.{trap_of}
use Rattle.trap.specs.declared.Trap.{Trap}
use Rattle.descriptor.specs.declared.Target.{Target}
use Rattle.storage.specs.Arrays.{share, drop_word, drop_words}
use Rattle.segment.specs.declared.blocks.Part.{Part}
use Rattle.segment.specs.Parts.{part_of}
use Rattle.manual.specs.Effects.{Effect, made, replaces, stores_element}
use Rattle.effects.specs.Sources.{address_of, held_at}
use Rattle.effects.specs.Perform.{bottom_of, finish, block_of, unshare, perform, is_full}
use Rattle.effects.specs.Seen.{whole}

-- `w` is held by one cell more: the operand in the place of n others, or the variable in the place of its old word.
unfoldable pub replace_shared : List ℕ → ℕ → ℕ → List ℕ
replace_shared s n w = finish (drop_words n (share s w) (bottom_of s n)) (bottom_of s n) w

unfoldable pub store_shared : List ℕ → Target → ℕ → List ℕ
store_shared s t w = drop_word (set (share s w) (address_of s t) w) (held_at s t)

-- An effect that may ask for a block: done, or the trap (1,2) where there is none; and the words after it.
abbrev pub answered : Bool → Result Unit Trap
answered full = cond full (Err (trap_of 1 2)) (Ok tt)

unfoldable pub full_or_done : List ℕ → Effect → Result Unit Trap
full_or_done s e = answered (is_full s e)

unfoldable pub attempt : List ℕ → Effect → List ℕ
attempt s e = cond (is_full s e) s (perform s e)

-- A new array with the elements of two parts of the segment takes the place of n operands.
abbrev pub joining : ℕ → List ℕ → List ℕ → Part → Part → Effect
joining n shape s first second = replaces n (made shape (part_of s first ++ part_of s second))

-- The block is that of the array that the variable holds, and it can be read.
pub record Held (s : List ℕ) (t : Target) (block : ℕ) : Type 0 where
  pub there : block ≡ block_of s (address_of s t)
  pub readable : whole s (block_of s (address_of s t)) ≡ true

-- The first half of storing an element: its array is copied where another cell holds it too. Which element does not matter.
abbrev pub writing : Target → Effect
writing t = stores_element t 0 0 0

unfoldable pub copied : List ℕ → Target → List ℕ
copied s t = cond (is_full s (writing t)) s (unshare s (address_of s t))
