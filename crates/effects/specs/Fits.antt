-- What an effect needs of the segment that it is performed on: what the traps of the manual's lists leave when none is given.
-- Whether a free block is long enough is not said here: `is_full` decides it. Assumes nothing.
use Rattle.std.specs.Prelude.{ℕ, ◌+◌, ◌≤◌, ◌<◌, ◌≡◌, Bool, true, List, length}
use Rattle.descriptor.specs.declared.Target.{Target}
use Rattle.descriptor.specs.Fields.{is_array}
use Rattle.descriptor.specs.Kinds.{is_scalar}
use Rattle.descriptor.specs.Inverse.{TargetFits}
use Rattle.segment.specs.State.{sbase, ltop, lbase}
use Rattle.segment.specs.Stack.{last_lbase_at}
use Rattle.segment.specs.Blocks.{product, shape_at}
use Rattle.storage.specs.Owned.{Proper}
use Rattle.segment.specs.View.{words}
use Rattle.manual.specs.Effects.{Source, variable, operand, word, undefined_value, reference, made, Effect, replaces, discards, swaps, stores, stores_element, enters, leaves, jumps, sets_origin, AddressableIn}
use Rattle.effects.specs.Sources.{address_of, held_at}
use Rattle.effects.specs.Perform.{bottom_of, block_of}
use Rattle.effects.specs.Seen.{temporaries}

-- The same of a segment.
abbrev pub Addressable : List ℕ → Target → Type 0
Addressable s t = AddressableIn t (words s)

-- A result that can be had.
abbrev pub Available : List ℕ → Source → Type 0
Available s (variable t) = Addressable s t
Available s (operand i) = i < temporaries s
Available s (word w) = is_scalar w ≡ true
Available s undefined_value = Unit {0}
Available s (reference t) = TargetFits t
Available s (made shape ravel) = Proper shape ravel

-- So many operands can be taken, and the stack has room for a cell in their place.
pub record CanReplace (s : List ℕ) (n : ℕ) : Type 0 where
  pub taken : n ≤ temporaries s
  pub room : bottom_of s n < length s

-- The variable holds an array with an element at that place.
pub record HasElement (s : List ℕ) (t : Target) (place : ℕ) : Type 0 where
  pub there : Addressable s t
  pub holds : is_array (held_at s t) ≡ true
  pub inside : place < product (shape_at s (block_of s (address_of s t)))

-- The current frame is not the bottom one, has so many cells, and no temporaries.
pub record CanLeave (s : List ℕ) (n : ℕ) (result : Bool) : Type 0 where
  pub empty : ltop s ≡ lbase s + 1
  pub cells : last_lbase_at s (lbase s) + 2 + n ≤ lbase s
  pub some : result ≡ true → 1 ≤ n

abbrev pub Fits : List ℕ → Effect → Type 0
Fits s (replaces n source) = CanReplace s n × Available s source
Fits s (discards n) = n ≤ temporaries s
Fits s swaps = 2 ≤ temporaries s
Fits s (stores t source) = Addressable s t × Available s source
Fits s (stores_element t place w n) = CanReplace s n × HasElement s t place × (is_scalar w ≡ true)
Fits s (enters n f) = sbase s + ltop s + n + 2 < length s
Fits s (leaves n result) = CanLeave s n result
Fits s (jumps place) = Unit {0}
Fits s (sets_origin v) = Unit {0}
