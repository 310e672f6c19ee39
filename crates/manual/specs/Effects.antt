-- The effects of which every instruction is made, and what each does to a machine of cells. What storage does for them is said
-- elsewhere, on words; here is only what a planner sees. A reader must believe: these are the changes that the manual speaks of.
-- Assumes nothing.
use Rattle.std.specs.Prelude.{ℕ, ◌+◌, ◌-◌, ◌*◌, ◌/◌, ◌%◌, ◌^◌, ◌≤◌, ◌<◌, ◌≡◌, Bool, cond, ◌⊎◌, List, [], ◌∷◌, ◌++◌, leb, ltb, get_or, set, length, drop, replicate}
use Rattle.descriptor.specs.declared.Target.{Target}
use Rattle.descriptor.specs.declared.Target.TheVariants.{Local, Global}
use Rattle.segment.specs.Cells.{Cell, undefined, indirect, value, invalid}
use Rattle.segment.specs.Machine.{Frame, Machine, depth_of_frames}
use Rattle.manual.specs.OrTrap.{OrTrap}

-- Where a result comes from: a share of a variable or of the i-th operand from the top (from 0), a scalar, the undefined value,
-- an indirect word for a variable, or a new array.
pub data Source : Type 0 where
  variable : Target → Source
  operand : ℕ → Source
  word : ℕ → Source
  undefined_value : Source
  reference : Target → Source
  made : List ℕ → List ℕ → Source

pub data Effect : Type 0 where
  -- so many operands are taken and the result takes their place
  replaces : ℕ → Source → Effect
  -- so many operands are taken
  discards : ℕ → Effect
  -- the first two operands change places
  swaps : Effect
  -- the variable holds the result from now on
  stores : Target → Source → Effect
  -- the element at that place of the variable's ravel is that word from now on; so many operands are taken, and the array pushed
  stores_element : Target → ℕ → ℕ → ℕ → Effect
  -- a new frame with so many locals, of the function (P and number) in bits 27–16 and PCTR in bits 15–0 of that word
  enters : ℕ → ℕ → Effect
  -- the current frame goes with so many variables, and pushes its result variable or nothing
  leaves : ℕ → Bool → Effect
  -- PCTR of the current frame, which has sixteen bits
  jumps : ℕ → Effect
  sets_origin : ℕ → Effect

-- What an instruction does: a trap, or effects one after the other. At most one of them asks for storage.
abbrev pub Plan : Type 0
Plan = OrTrap (List Effect)

-- The effect stores to that variable; none of them does.
abbrev pub StoresTo : Effect → Target → Type 0
StoresTo (replaces n source) u = ⊥
StoresTo (discards n) u = ⊥
StoresTo swaps u = ⊥
StoresTo (stores t source) u = u ≡ t
StoresTo (stores_element t place w n) u = u ≡ t
StoresTo (enters n f) u = ⊥
StoresTo (leaves n result) u = ⊥
StoresTo (jumps place) u = ⊥
StoresTo (sets_origin v) u = ⊥

abbrev pub NoneStoresTo : List Effect → Target → Type 0
NoneStoresTo [] t = Unit {0}
NoneStoresTo (e ∷ es) t = (StoresTo e t → ⊥) × NoneStoresTo es t

-- ---- on machines

-- The cells of a frame stand from the highest down, and the stack address of the last is the depth of the older frames. Any other
-- address leads past them: there nothing is looked at, and nothing put.
abbrev pub index_in : {A : Type 0} → List A → List (Frame A) → ℕ → ℕ
index_in cells older a = cond (ltb a (depth_of_frames older + length cells)) (depth_of_frames older + length cells - 1 - a) (length cells)

-- Globals stand from 8 up.
abbrev pub global_index : {A : Type 0} → List A → ℕ → ℕ
global_index globals g = cond (leb 8 g) (g - 8) (length globals)

abbrev pub look_frames : {A : Type 0} → A → ℕ → List (Frame A) → A
look_frames none a [] = none
look_frames none a (r ∷ older) = cond (leb (depth_of_frames older) a) (get_or r.cells (index_in r.cells older a) none) (look_frames none a older)

abbrev pub look : {A : Type 0} → A → Target → Machine A → A
look none (Global g) m = get_or m.globals (global_index m.globals g.0) none
look none (Local a) m = look_frames none a.0 m.frames

abbrev pub put_frames : {A : Type 0} → ℕ → A → List (Frame A) → List (Frame A)
put_frames a c [] = []
put_frames a c (r ∷ older) =
    cond (leb (depth_of_frames older) a)
    (record { function = r.function; pctr = r.pctr; cells = set r.cells (index_in r.cells older a) c } ∷ older)
    (r ∷ put_frames a c older)

abbrev pub put : {A : Type 0} → Target → A → Machine A → Machine A
put (Global g) c m = record { flags = m.flags; temporaries = m.temporaries; frames = m.frames; globals = set m.globals (global_index m.globals g.0) c }
put (Local a) c m = record { flags = m.flags; temporaries = m.temporaries; frames = put_frames a.0 c m.frames; globals = m.globals }

-- An address that leads to a cell: that of a global, or the stack address of a cell under a frame's two words, which is one of its
-- locals, its arguments or the older frame's temporaries.
abbrev pub InFrames : {A : Type 0} → ℕ → List (Frame A) → Type 0
InFrames a [] = ⊥
InFrames a (r ∷ older) = ((depth_of_frames older ≤ a) × (a < depth_of_frames older + length r.cells)) ⊎ InFrames a older

abbrev pub AddressableIn : {A : Type 0} → Target → Machine A → Type 0
AddressableIn (Global g) m = (8 ≤ g.0) × (g.0 < 8 + length m.globals)
AddressableIn (Local a) m = InFrames a.0 m.frames

abbrev pub with_temporaries : {A : Type 0} → List A → Machine A → Machine A
with_temporaries ts m = record { flags = m.flags; temporaries = ts; frames = m.frames; globals = m.globals }

abbrev pub replace : {A : Type 0} → ℕ → A → Machine A → Machine A
replace n c m = with_temporaries (c ∷ drop n m.temporaries) m

abbrev pub discard : {A : Type 0} → ℕ → Machine A → Machine A
discard n m = with_temporaries (drop n m.temporaries) m

abbrev pub swapped : {A : Type 0} → List A → List A
swapped [] = []
swapped (c ∷ []) = c ∷ []
swapped (c ∷ d ∷ ts) = d ∷ c ∷ ts

abbrev pub swap : {A : Type 0} → Machine A → Machine A
swap m = with_temporaries (swapped m.temporaries) m

-- The operands become the arguments of the new frame: its cells are the locals and then all temporaries of the older one.
abbrev pub enter : {A : Type 0} → A → ℕ → ℕ → Machine A → Machine A
enter none n f m =
    record {
      flags = m.flags;
      temporaries = [];
      frames = record { function = f / 2 ^ 16; pctr = f % 2 ^ 16; cells = replicate n none ++ m.temporaries } ∷ m.frames;
      globals = m.globals;
    }

abbrev pub current_cells : {A : Type 0} → List (Frame A) → List A
current_cells [] = []
current_cells (r ∷ older) = r.cells

abbrev pub older : {A : Type 0} → List (Frame A) → List (Frame A)
older [] = []
older (r ∷ rs) = rs

abbrev pub push_if : {A : Type 0} → Bool → A → List A → List A
push_if result c ts = cond result (c ∷ ts) ts

-- The result variable is the frame's highest cell.
abbrev pub leave : {A : Type 0} → A → ℕ → Bool → Machine A → Machine A
leave none n result m =
    record {
      flags = m.flags;
      temporaries = push_if result (get_or (current_cells m.frames) 0 none) (drop n (current_cells m.frames));
      frames = older m.frames;
      globals = m.globals;
    }

abbrev pub jump_frames : {A : Type 0} → ℕ → List (Frame A) → List (Frame A)
jump_frames place [] = []
jump_frames place (r ∷ rs) = record { function = r.function; pctr = place; cells = r.cells } ∷ rs

abbrev pub jump : {A : Type 0} → ℕ → Machine A → Machine A
jump place m = record { flags = m.flags; temporaries = m.temporaries; frames = jump_frames place m.frames; globals = m.globals }

abbrev pub with_origin : {A : Type 0} → ℕ → Machine A → Machine A
with_origin v m = record { flags = m.flags / 2 * 2 + v; temporaries = m.temporaries; frames = m.frames; globals = m.globals }

-- The cell that a source is seen as.
abbrev pub meant : Source → Machine Cell → Cell
meant (variable t) m = look undefined t m
meant (operand i) m = get_or m.temporaries i undefined
meant (word w) m = value [] (w ∷ [])
meant undefined_value m = undefined
meant (reference t) m = indirect t
meant (made shape ravel) m = value shape ravel

-- An array with one element written anew.
abbrev pub with_element : ℕ → ℕ → Cell → Cell
with_element place w undefined = undefined
with_element place w (indirect t) = indirect t
with_element place w (value shape ravel) = value shape (set ravel place w)
with_element place w invalid = invalid

abbrev pub perform_on : Effect → Machine Cell → Machine Cell
perform_on (replaces n source) m = replace n (meant source m) m
perform_on (discards n) m = discard n m
perform_on swaps m = swap m
perform_on (stores t source) m = put t (meant source m) m
perform_on (stores_element t place w n) m = replace n (with_element place w (look undefined t m)) (put t (with_element place w (look undefined t m)) m)
perform_on (enters n f) m = enter undefined n f m
perform_on (leaves n result) m = leave undefined n result m
perform_on (jumps place) m = jump (place % 2 ^ 16) m
perform_on (sets_origin v) m = with_origin v m

abbrev pub perform_all : List Effect → Machine Cell → Machine Cell
perform_all [] m = m
perform_all (e ∷ es) m = perform_all es (perform_on e m)
