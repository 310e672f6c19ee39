-- What a cell is seen as. A cell is a global, argument, local or temporary; it points to an array when it holds a descriptor of
-- type 2 with that block's address. A reader must believe: this is the value that a planner means. Assumes nothing.
use Rattle.std.specs.Prelude.{ℕ, List, [], ◌∷◌}
use Rattle.descriptor.specs.declared.Target.{Target}
use Rattle.descriptor.specs.declared.Kind.{Kind}
use Rattle.descriptor.specs.declared.Kind.TheVariants as K
use Rattle.descriptor.specs.Kinds.{kind_of}
use Rattle.segment.specs.Blocks.{shape_at, elements_at}

-- Undefined, the name of another variable, or a value by its shape and its ravel: a scalar has no lengths and one element.
-- No accepted segment has a cell that is invalid.
pub data Cell : Type 0 where
  undefined : Cell
  indirect : Target → Cell
  value : List ℕ → List ℕ → Cell
  invalid : Cell

abbrev pub cell_of_kind : List ℕ → ℕ → Kind → Cell
cell_of_kind s w (K.Scalar k) = value [] (w ∷ [])
cell_of_kind s w (K.Array a) = value (shape_at s a.0) (elements_at s a.0)
cell_of_kind s w (K.Indirect t) = indirect t
cell_of_kind s w K.Undefined = undefined
cell_of_kind s w K.Invalid = invalid

unfoldable pub cell : List ℕ → ℕ → Cell
cell s w = cell_of_kind s w (kind_of w)
