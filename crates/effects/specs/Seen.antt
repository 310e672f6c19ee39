-- What an instruction sees of a segment, read off its words. On an accepted segment it is what is seen of the view. Assumes nothing.
use Rattle.std.specs.Prelude.{ℕ, ◌+◌, ◌-◌, Bool, cond, ◌&&◌, List, [], ◌∷◌, ltb, leb, eqb, get_or, length}
use Rattle.descriptor.specs.declared.Target.{Target}
use Rattle.descriptor.specs.declared.Kind.{Kind}
use Rattle.descriptor.specs.declared.Kind.TheVariants as K
use Rattle.descriptor.specs.Kinds.{kind_of}
use Rattle.segment.specs.State.{sbase, ltop, lbase, flags, iorg, blockptr}
use Rattle.segment.specs.Stack.{last_lbase_at}
use Rattle.segment.specs.Blocks.{size_at, rank_at, product, shape_at, elements_at}
use Rattle.segment.specs.Cells.{Cell, undefined, indirect, value, invalid}
use Rattle.manual.specs.Seen.{Seen, local_at, global_at}
use Rattle.effects.specs.Sources.{held_at, operand_at}

-- An array is looked at only where its block is whole: it has a rank, SIZE is 2 + rank + elements, and it lies in the segment.
-- Every array of an accepted segment is; on other words a look stays inside the segment all the same.
unfoldable pub whole : List ℕ → ℕ → Bool
whole s a =
    leb 1 (rank_at s a)
    && (eqb (size_at s a) (2 + rank_at s a + product (shape_at s a)) && leb (a + size_at s a) (length s))

abbrev pub read_kind : List ℕ → ℕ → Kind → Cell
read_kind s w (K.Scalar k) = value [] (w ∷ [])
read_kind s w (K.Array a) = cond (whole s a.0) (value (shape_at s a.0) (elements_at s a.0)) invalid
read_kind s w (K.Indirect t) = indirect t
read_kind s w K.Undefined = undefined
read_kind s w K.Invalid = invalid

unfoldable pub read : List ℕ → ℕ → Cell
read s w = read_kind s w (kind_of w)

abbrev pub temporaries : List ℕ → ℕ
temporaries s = ltop s - (lbase s + 1)

unfoldable pub seen : List ℕ → Seen
seen s =
    let held : Target → Cell = λ t. read s (held_at s t) in
    record {
      origin = iorg (flags s);
      room = length s - (sbase s + ltop s + 1);
      count = temporaries s;
      operand = λ i. cond (ltb i (temporaries s)) (read s (operand_at s i)) undefined;
      local = λ variables v. local_at held (lbase s) variables v;
      global = λ g. global_at held (blockptr s) g;
      bottom = leb (lbase s) (last_lbase_at s (lbase s));
      result = λ has. cond has (read s (get_or s (sbase s + lbase s - 1) 0)) undefined;
    }
