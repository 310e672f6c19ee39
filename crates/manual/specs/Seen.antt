-- What an instruction can look at: operands, variables by their address with one indirection, the room that is left on the
-- stack, the index origin and the current function. A plan is told by these alone, so that sharing is invisible to it.
-- A reader must believe: an address leads to its variable as here. Assumes nothing.
use Rattle.std.specs.Prelude.{ℕ, ◌+◌, ◌-◌, Bool, true, false, cond, ◌||◌, List, [], ◌∷◌, ltb, leb, get_or, length}
use Rattle.descriptor.specs.declared.Target.{Target}
use Rattle.descriptor.specs.declared.Target.TheVariants.{Local, Global}
use Rattle.descriptor.specs.Kinds.{segment, stack}
use Rattle.procedure.specs.declared.header.Header.{Header}
use Rattle.segment.specs.State.{iorg}
use Rattle.segment.specs.Cells.{Cell, undefined, indirect, value, invalid}
use Rattle.segment.specs.Machine.{Frame, Machine, depth_of_frames, depth}
use Rattle.manual.specs.OrTrap.{OrTrap, gives, trap, stop_if}
use Rattle.manual.specs.Effects.{look, current_cells}

-- A variable that an address leads to, and what it holds.
pub record Variable : Type 0 where
  pub place : Target
  pub held : Cell

abbrev pub at : Target → Cell → Variable
at t c = record { place = t; held = c }

pub record Seen : Type 0 where
  -- the index origin
  pub origin : ℕ
  -- how many words the stack can still take
  pub room : ℕ
  -- the temporaries: how many, and the i-th from the top, from 0
  pub count : ℕ
  pub operand : ℕ → Cell
  -- the variable so many words below LBASE, of a frame with that many, and the global at that address
  pub local : ℕ → ℕ → OrTrap Variable
  pub global : ℕ → OrTrap Variable
  -- is this the bottom frame, and what its result variable holds, if it has one
  pub bottom : Bool
  pub result : Bool → Cell

-- "One level of indirect addressing": (3,6) where the target is indirect again. `read` tells what a variable holds.
abbrev pub followed : Target → Cell → OrTrap Variable
followed t undefined = gives (at t undefined)
followed t (indirect u) = trap 3 6
followed t (value shape ravel) = gives (at t (value shape ravel))
followed t invalid = gives (at t invalid)

abbrev pub follow : (Target → Cell) → Target → Cell → OrTrap Variable
follow read t undefined = gives (at t undefined)
follow read t (indirect u) = followed u (read u)
follow read t (value shape ravel) = gives (at t (value shape ravel))
follow read t invalid = gives (at t invalid)

-- "Local outside its frame (3,2)": the variables are the words below LBASE, NARGS + NLOCALS of them.
abbrev pub local_at : (Target → Cell) → ℕ → ℕ → ℕ → OrTrap Variable
local_at read base variables v =
    stop_if (ltb v 1 || ltb variables v) 3 2 (follow read (Local (stack (base - v))) (read (Local (stack (base - v)))))

-- "global below 8 or from BLOCKPTR (3,3)"
abbrev pub global_at : (Target → Cell) → ℕ → ℕ → OrTrap Variable
global_at read blockptr g =
    stop_if (ltb g 8 || leb blockptr g) 3 3 (follow read (Global (segment g)) (read (Global (segment g))))

abbrev pub variables_of : Header → ℕ
variables_of h = h.nargs + h.nlocals

abbrev pub no_older : {A : Type 0} → List (Frame A) → Bool
no_older [] = true
no_older (r ∷ []) = true
no_older (r ∷ q ∷ rs) = false

-- What is seen of a machine on a stack of `words` words.
unfoldable pub seen_of : ℕ → Machine Cell → Seen
seen_of words m =
    let read : Target → Cell = λ t. look undefined t m in
    record {
      origin = iorg m.flags;
      room = words - depth m;
      count = length m.temporaries;
      operand = λ i. get_or m.temporaries i undefined;
      local = λ variables v. local_at read (depth_of_frames m.frames - 2) variables v;
      global = λ g. global_at read (8 + length m.globals) g;
      bottom = no_older m.frames;
      result = λ has. cond has (get_or (current_cells m.frames) 0 undefined) undefined;
    }
