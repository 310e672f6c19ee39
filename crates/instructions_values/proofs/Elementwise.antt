-- The GENSCALAR family by the ways through it: a result of scalars, or one with the shape of an array.
use Rattle.std.proofs.Common.{Ok, Err}
use Prim.Native.Nat.{ℕ, ◌≤◌}
use native.Mathlib.Omega.{arith}
use mathlib.Core.Path.{◌≡◌, refl, sym, ◌∙◌}
use mathlib.Core.Bool.{Bool, true, false, cond, ◌&&◌}
use mathlib.Core.List.{List, [], ◌∷◌}
use lib.Dec.{eqb, ltb}
use lib.ListN.{length}
use borrow.Author.Tests.{le-ltb, lt-ltb, ne_eqb}
use Rattle.operator.specs.declared.Monadic.{Monadic}
use Rattle.operator.specs.declared.Dyadic.{Dyadic}
use Rattle.scalar.specs.Results.{Answer}
use Rattle.scalar.specs.Operators.{monadic_of, dyadic_of}
use Rattle.segment.specs.Blocks.{shape_at, elements_at}
use Rattle.manual.specs.OrTrap.{OrTrap, gives, trap, and_then}
use Rattle.manual.specs.Values as values
use Rattle.manual.specs.Values.{Value, value, scalar, rank, size, answered, collect, each, conform, pairwise, extent}
use Rattle.manual.specs.Scalars.{replace_by}
use Rattle.elements.specs.Answers.{Paired}
use Rattle.elements.proofs.Conformity as conformity
use Rattle.effects.specs.Seen.{whole}
use Rattle.operands.proofs.Whole.{whole-facts}
use Rattle.instructions_values.specs.Parts.{scalar_of, made_of}

module _ (next n : ℕ) where
  like-array : (shape : List ℕ) → 1 ≤ length shape → (result : OrTrap (List ℕ)) → replace_by next n (and_then result (λ ravel. gives (value shape ravel))) ≡ made_of next n shape result
  like-array shape some (gives words) = simp (ne_eqb (length shape) 0 (λ e. omega arith))
  like-array shape some (trap class number) = refl

  like-scalar : (answer : Answer) → replace_by next n (and_then (collect (answered answer ∷ [])) (λ ravel. gives (value [] ravel))) ≡ scalar_of next n (answered answer)
  like-scalar (Ok w) = refl
  like-scalar (Err t) = refl

module _ (next : ℕ) (op : Monadic) where
  pub monadic-scalar : (w : ℕ) → replace_by next 1 (values.monadic op (scalar w)) ≡ scalar_of next 1 (answered (monadic_of op w))
  unfolding values.monadic each
  monadic-scalar w = like-scalar next 1 (monadic_of op w)

  pub monadic-array : (a : Value) → 1 ≤ rank a → replace_by next 1 (values.monadic op a) ≡ made_of next 1 a.shape (each (λ w. answered (monadic_of op w)) a.ravel)
  unfolding values.monadic
  monadic-array a ranked = like-array next 1 a.shape ranked (each (λ w. answered (monadic_of op w)) a.ravel)

module _ (next : ℕ) (op : Dyadic) where
  abbrev answers : ℕ → ℕ → OrTrap ℕ
  answers x y = answered (dyadic_of op x y)

  pub dyadic-scalars : (x y : ℕ) → replace_by next 2 (values.dyadic op (scalar x) (scalar y)) ≡ scalar_of next 2 (answered (dyadic_of op x y))
  unfolding values.dyadic conform pairwise
  dyadic-scalars x y = like-scalar next 2 (dyadic_of op x y)

  -- the operands conform
  pub dyadic-shaped : (a b : Value) (shape : List ℕ) → 1 ≤ length shape → gives shape ≡ conform a.shape (size a) b.shape (size b) → replace_by next 2 (values.dyadic op a b) ≡ made_of next 2 shape (pairwise answers a.ravel b.ravel)
  unfolding values.dyadic
  dyadic-shaped a b shape some conforms = rw (← conforms) (like-array next 2 shape some (pairwise answers a.ravel b.ravel))

  pub dyadic-refused : (a b : Value) (class number : ℕ) → trap class number ≡ conform a.shape (size a) b.shape (size b) → replace_by next 2 (values.dyadic op a b) ≡ trap class number
  unfolding values.dyadic
  dyadic-refused a b class number refused = rw (← refused)

-- A scalar takes the shape of an array.
and-false : (b : Bool) → (b && false) ≡ false
and-false true = refl
and-false false = refl

module _ (v : Value) (ranked : 1 ≤ rank v) where
  pub scalar-first : gives v.shape ≡ conform [] 1 v.shape (size v)
  unfolding conform
  scalar-first = simp (le-ltb (rank v) 0 (omega arith), and-false (eqb (size v) 1))

  pub scalar-second : gives v.shape ≡ conform v.shape (size v) [] 1
  unfolding conform
  scalar-second = by-test (eqb (size v) 1)
    where
      by-test : (b : Bool) → gives v.shape ≡ cond b (gives (cond (ltb 0 (rank v)) v.shape [])) (gives v.shape)
      by-test true = simp (lt-ltb 0 (rank v) ranked)
      by-test false = refl

-- Two arrays that conform.
module _ (s : List ℕ) (first second : ℕ) where
  module _ (like : ℕ) (first-whole : whole s first ≡ true) (second-whole : whole s second ≡ true) (like-whole : whole s like ≡ true)
      (conforms : gives (shape_at s like) ≡ conform (shape_at s first) (length (elements_at s first)) (shape_at s second) (length (elements_at s second))) where
    pub arrays-paired : Paired (elements_at s first) (elements_at s second)
    arrays-paired =
        conformity.conform-paired (elements_at s first) (elements_at s second) (shape_at s first) (shape_at s second) (shape_at s like) (whole-facts s first first-whole).elements (whole-facts s second second-whole).elements (sym conforms)

    pub arrays-extent : length (elements_at s like) ≡ extent (elements_at s first) (elements_at s second)
    arrays-extent =
        (whole-facts s like like-whole).elements
        ∙ sym (conformity.conform-extent (elements_at s first) (elements_at s second) (shape_at s first) (shape_at s second) (shape_at s like) (whole-facts s first first-whole).elements (whole-facts s second second-whole).elements (sym conforms))
