-- Look: what a global holds. Document 01's table: 10–18, then 21, 22. "Look at a global: a scalar's word, or its shape and
-- ravel." Nothing is changed. Assumes nothing.
use Rattle.std.specs.Prelude.{ℕ, cond, List, eqb, get_or, Result, Ok, Err}
use Rattle.descriptor.specs.declared.Kind.{Kind}
use Rattle.descriptor.specs.declared.Kind.TheVariants as K
use Rattle.descriptor.specs.Kinds.{kind_of}
use Rattle.acceptance.specs.Refusal.{refusal}
use Rattle.operations.specs.declared.Looked.{Looked}
use Rattle.operations.specs.declared.Looked.TheVariants.{Scalar, Array}
use Rattle.operations.specs.Load.{is_global}

-- An accepted segment has no other words in its globals: the last two answers never come.
abbrev pub seen_as : ℕ → Kind → Result Looked ℕ
seen_as w (K.Scalar k) = Ok (Scalar w)
seen_as w (K.Array block) = Ok (Array block)
seen_as w K.Undefined = Err 22
seen_as w (K.Indirect t) = Err 17
seen_as w K.Invalid = Err 17

unfoldable pub looked : List ℕ → List ℕ → List ℕ → ℕ → Result Looked ℕ
looked s regular alternate g =
    cond (eqb (refusal s regular alternate) 0)
    (cond (is_global s g) (seen_as (get_or s g 0) (kind_of (get_or s g 0))) (Err 21))
    (Err (refusal s regular alternate))
