-- The machine as lists of cells of any kind: words where storage is meant, values where the manual is. Document 01's "Data
-- segment": globals, the frames of the stack, temporaries, flags. A reader must believe: this is all that an instruction can
-- see. Assumes nothing.
use Rattle.std.specs.Prelude.{ℕ, ◌+◌, List, [], ◌∷◌, ◌++◌, map, length}

-- A frame: P and the function's number (bits 27–16 of its second word), PCTR, and the cells under its two words down to the
-- older frame's two, from the highest down: its locals, its arguments, and the older frame's temporaries.
pub record Frame (A : Type 0) : Type 0 where
  pub function : ℕ
  pub pctr : ℕ
  pub cells : List A

-- The temporaries, from the highest down; the frames, from the current one down; the globals, from the first up.
pub record Machine (A : Type 0) : Type 0 where
  pub flags : ℕ
  pub temporaries : List A
  pub frames : List (Frame A)
  pub globals : List A

abbrev pub map_frames : {A B : Type 0} → (A → B) → List (Frame A) → List (Frame B)
map_frames f [] = []
map_frames f (r ∷ rs) = record { function = r.function; pctr = r.pctr; cells = map f r.cells } ∷ map_frames f rs

abbrev pub map_machine : {A B : Type 0} → (A → B) → Machine A → Machine B
map_machine f m = record { flags = m.flags; temporaries = map f m.temporaries; frames = map_frames f m.frames; globals = map f m.globals }

-- All its cells: a cell is a global, argument, local or temporary.
abbrev pub cells_of_frames : {A : Type 0} → List (Frame A) → List A
cells_of_frames [] = []
cells_of_frames (r ∷ rs) = r.cells ++ cells_of_frames rs

abbrev pub all_cells : {A : Type 0} → Machine A → List A
all_cells m = m.temporaries ++ (cells_of_frames m.frames ++ m.globals)

-- The words of the stack under the temporaries of the first frame, so LBASE + 2 of it; and all words in use, so LTOP + 1.
abbrev pub depth_of_frames : {A : Type 0} → List (Frame A) → ℕ
depth_of_frames [] = 0
depth_of_frames (r ∷ rs) = length r.cells + 2 + depth_of_frames rs

abbrev pub depth : {A : Type 0} → Machine A → ℕ
depth m = length m.temporaries + depth_of_frames m.frames
