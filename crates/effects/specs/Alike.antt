-- What an instruction sees of the words of a segment is what it sees of the view: the planner cannot tell them apart.
-- Proved in proofs/Seen. Assumes nothing.
use Rattle.std.specs.Prelude.{ℕ, ◌≤◌, ◌≡◌, Bool, true, List, length}
use Rattle.descriptor.specs.declared.Target.{Target}
use Rattle.segment.specs.Cells.{indirect, cell}
use Rattle.segment.specs.View.{words}
use Rattle.manual.specs.Effects.{current_cells}
use Rattle.manual.specs.Seen.{Seen, Variable}
use Rattle.effects.specs.Sources.{held_at}
use Rattle.effects.specs.Fits.{Addressable}

-- What a function with so many variables, and a result or none, sees: of the current frame no more than its variables.
abbrev pub seen_by : ℕ → Bool → Seen → Seen
seen_by variables result seen =
    record {
      origin = seen.origin;
      room = seen.room;
      count = seen.count;
      operand = seen.operand;
      local = λ n v. seen.local variables v;
      global = seen.global;
      bottom = seen.bottom;
      result = λ has. seen.result result;
    }

-- What an accepted segment has besides: the current frame has the function's variables, and an indirect word of a variable
-- names a variable.
pub record HasFrame (s : List ℕ) (variables : ℕ) (result : Bool) : Type 0 where
  pub cells : variables ≤ length (current_cells (words s).frames)
  pub some : result ≡ true → 1 ≤ variables
  pub targets : (t u : Target) → Addressable s t → cell s (held_at s t) ≡ indirect u → Addressable s u

-- A variable that an address leads to: it stands in the segment, and holds no indirect word.
pub record Resolved (s : List ℕ) (x : Variable) : Type 0 where
  pub there : Addressable s x.place
  pub holds : x.held ≡ cell s (held_at s x.place)
  pub direct : (u : Target) → x.held ≡ indirect u → ⊥
