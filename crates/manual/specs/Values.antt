-- The operators on values: the GENSCALAR family, SHAPE, RESHAPE, RAVEL, CATENATE, INDEXGEN and subscripts, as section 5 of the
-- manual has them and document 01 fixes them under "Meanings fixed here". A value is its shape, the lengths as numbers, and its
-- ravel, the elements' words. Missing operands (3,4), operands of a wrong kind (3,5) and storage (1,2) are not said here.
-- A reader must believe: this is what the planners' functions mean. Assumes nothing.
use Rattle.std.specs.Prelude.{ℕ, zero, suc, ◌+◌, ◌-◌, ◌*◌, ◌^◌, Bool, true, false, cond, not, ◌&&◌, ◌||◌, List, [], ◌∷◌, ◌++◌, map, ltb, leb, eqb, length, get_or, take, replicate, Ok, Err}
use Rattle.descriptor.specs.Fields.{is_character}
use Rattle.operator.specs.declared.Monadic.{Monadic}
use Rattle.operator.specs.declared.Dyadic.{Dyadic}
use Rattle.scalar.specs.Results.{Answer}
use Rattle.scalar.specs.declared.Whole.{Whole}
use Rattle.scalar.specs.declared.Whole.TheVariants as W
use Rattle.scalar.specs.declared.Truth.{Truth}
use Rattle.scalar.specs.declared.Truth.TheVariants as T
use Rattle.scalar.specs.Reading.{whole_of, truth_of}
use Rattle.scalar.specs.Operators.{monadic_of, dyadic_of}
use Rattle.segment.specs.Blocks.{product}
use Rattle.manual.specs.OrTrap.{OrTrap, gives, trap, and_then, stop_if}

pub record Value : Type 0 where
  pub shape : List ℕ
  pub ravel : List ℕ

abbrev pub value : List ℕ → List ℕ → Value
value shape ravel = record { shape = shape; ravel = ravel }

abbrev pub scalar : ℕ → Value
scalar w = value [] (w ∷ [])

-- A length's descriptor is the number itself, since it is an integer that is not negative.
abbrev pub vector : List ℕ → Value
vector ravel = value (length ravel ∷ []) ravel

abbrev pub rank : Value → ℕ
rank v = length v.shape

abbrev pub size : Value → ℕ
size v = length v.ravel

abbrev pub is_single : List ℕ → Bool
is_single ravel = eqb (length ravel) 1

abbrev pub first : List ℕ → ℕ
first ravel = get_or ravel 0 0

abbrev pub same : List ℕ → List ℕ → Bool
same [] [] = true
same [] (y ∷ ys) = false
same (x ∷ xs) [] = false
same (x ∷ xs) (y ∷ ys) = eqb x y && same xs ys

abbrev pub any : (ℕ → Bool) → List ℕ → Bool
any test [] = false
any test (x ∷ xs) = test x || any test xs

-- ---- GENSCALAR

abbrev pub answered : Answer → OrTrap ℕ
answered (Ok w) = gives w
answered (Err t) = trap t.class t.number

-- The results of the elements in ravel order; the first trap wins.
abbrev pub collect : List (OrTrap ℕ) → OrTrap (List ℕ)
collect [] = gives []
collect (r ∷ rs) = and_then r (λ w. and_then (collect rs) (λ ws. gives (w ∷ ws)))

unfoldable pub each : (ℕ → OrTrap ℕ) → List ℕ → OrTrap (List ℕ)
each f ravel = collect (map f ravel)

unfoldable pub monadic : Monadic → Value → OrTrap Value
monadic op v = and_then (each (λ w. answered (monadic_of op w)) v.ravel) (λ ravel. gives (value v.shape ravel))

-- Conformity: "A one-element operand extends; of two, the greater rank gives the shape." Else (5,0) for unequal ranks and
-- (6,0) for unequal lengths. From the shapes and the numbers of elements.
unfoldable pub conform : List ℕ → ℕ → List ℕ → ℕ → OrTrap (List ℕ)
conform a size_a b size_b =
    cond (eqb size_a 1) (gives (cond (eqb size_b 1 && ltb (length b) (length a)) a b))
    (cond (eqb size_b 1) (gives a)
    (stop_if (not (eqb (length a) (length b))) 5 0
    (stop_if (not (same a b)) 6 0
    (gives a))))

-- A one-element operand is repeated for n elements.
abbrev pub spread : ℕ → List ℕ → List ℕ
spread n ravel = cond (is_single ravel) (replicate n (first ravel)) ravel

abbrev pub zip : {A : Type 0} → (ℕ → ℕ → A) → List ℕ → List ℕ → List A
zip f [] ys = []
zip f (x ∷ xs) [] = []
zip f (x ∷ xs) (y ∷ ys) = f x y ∷ zip f xs ys

-- The number of elements of the result: the other operand's where one has a single element.
abbrev pub extent : List ℕ → List ℕ → ℕ
extent a b = cond (is_single a) (length b) (length a)

unfoldable pub pairwise : (ℕ → ℕ → OrTrap ℕ) → List ℕ → List ℕ → OrTrap (List ℕ)
pairwise f a b = collect (zip f (spread (extent a b) a) (spread (extent a b) b))

unfoldable pub dyadic : Dyadic → Value → Value → OrTrap Value
dyadic op a b =
    and_then (conform a.shape (size a) b.shape (size b)) (λ shape.
    and_then (pairwise (λ x y. answered (dyadic_of op x y)) a.ravel b.ravel) (λ ravel.
    gives (value shape ravel)))

-- ---- readings of a number

-- "nonintegral, negative, or not less than 2 ^ 16"
abbrev pub short_of : Whole → OrTrap ℕ
short_of (W.Number true n) = trap 8 5
short_of (W.Number false n) = stop_if (leb (2 ^ 16) n) 8 5 (gives n)
short_of W.Fraction = trap 8 5
short_of W.Character = trap 7 0

abbrev pub shorts : List ℕ → OrTrap (List ℕ)
shorts ravel = each (λ w. short_of (whole_of w)) ravel

-- "The operand must be either zero or one"; the element of a one-element operand.
abbrev pub truth : Truth → OrTrap Bool
truth (T.Value b) = gives b
truth T.Other = trap 8 5
truth T.Character = trap 7 0

abbrev pub single : Value → OrTrap ℕ
single v = stop_if (not (is_single v.ravel)) 6 0 (gives (first v.ravel))

abbrev pub truth_of_value : Value → OrTrap Bool
truth_of_value v = and_then (single v) (λ w. truth (truth_of w))

-- ---- SHAPE, RAVEL, CATENATE, INDEXGEN, RESHAPE

abbrev pub shape_of : Value → Value
shape_of v = vector v.shape

abbrev pub ravel_of : Value → Value
ravel_of v = vector v.ravel

-- Document 02, request 6: a matrix has rows, "and a vector counts as one row beside a matrix of that width". A scalar is no row.
abbrev pub has_rows : List ℕ → Bool
has_rows shape = leb 1 (length shape) && leb (length shape) 2

abbrev pub rows : List ℕ → ℕ
rows shape = cond (eqb (length shape) 2) (get_or shape 0 0) 1

abbrev pub width : List ℕ → ℕ
width shape = get_or shape (length shape - 1) 0

-- The first length of a join, and those after it: "the sum of the lengths of the operands is not less than 2 ^ 16" is (6,0), and
-- so are "rows beside a matrix that together pass 65,535".
abbrev pub lengthened : ℕ → List ℕ → OrTrap (List ℕ)
lengthened n lengths = stop_if (leb (2 ^ 16) n) 6 0 (gives (n ∷ lengths))

-- The shape of a join: elements are counted where neither operand is above rank one, else rows of one width.
unfoldable pub joined_shape : List ℕ → List ℕ → OrTrap (List ℕ)
joined_shape a b =
    cond (leb (length a) 1 && leb (length b) 1) (lengthened (product a + product b) [])
    (stop_if (not (has_rows a && has_rows b)) 5 0
    (stop_if (not (eqb (width a) (width b))) 6 0
    (lengthened (rows a + rows b) (width a ∷ []))))

-- "The elements are the first operand's ravel and then the second's", for vectors and matrices alike.
unfoldable pub catenate : Value → Value → OrTrap Value
catenate a b = and_then (joined_shape a.shape b.shape) (λ shape. gives (value shape (a.ravel ++ b.ravel)))

-- n numbers that follow one another.
unfoldable pub up_from : ℕ → ℕ → List ℕ
up_from k zero = []
up_from k (suc n) = k ∷ up_from (suc k) n

-- "consecutive integers beginning with the current index origin"
unfoldable pub index_generator : ℕ → Value → OrTrap Value
index_generator origin v =
    and_then (single v) (λ w. and_then (short_of (whole_of w)) (λ n. gives (vector (up_from origin n))))

-- n elements, taken from the ravel round and round.
abbrev pub repeated : ℕ → List ℕ → List ℕ
repeated zero ravel = []
repeated (suc n) ravel = ravel ++ repeated n ravel

unfoldable pub cycle : ℕ → List ℕ → List ℕ
cycle n ravel = take n (repeated n ravel)

-- The characters among the lengths are judged before the other domain errors.
unfoldable pub reshape : Value → Value → OrTrap Value
reshape a b =
    stop_if (ltb 1 (rank a) || ltb 15 (size a)) 5 0
    (stop_if (any is_character a.ravel) 7 0
    (and_then (shorts a.ravel) (λ lengths.
    stop_if (leb (2 ^ 16) (product lengths)) 8 5
    (stop_if (eqb (size b) 0 && not (eqb (product lengths) 0)) 6 0
    (gives (value lengths (cycle (product lengths) b.ravel)))))))

-- ---- subscripts

-- A subscript is read as whole, negative or not.
abbrev pub is_fraction : Whole → Bool
is_fraction (W.Number negative n) = false
is_fraction W.Fraction = true
is_fraction W.Character = false

-- 0 ≤ S − IORG < L, and S − IORG.
abbrev pub in_range : ℕ → Whole → ℕ → Bool
in_range origin (W.Number negative n) l = not negative && (leb origin n && ltb n (l + origin))
in_range origin W.Fraction l = false
in_range origin W.Character l = false

abbrev pub offset : ℕ → Whole → ℕ
offset origin (W.Number negative n) = n - origin
offset origin W.Fraction = 0
offset origin W.Character = 0

abbrev pub in_ranges : ℕ → List ℕ → List ℕ → Bool
in_ranges origin [] ls = true
in_ranges origin (w ∷ ws) [] = true
in_ranges origin (w ∷ ws) (l ∷ ls) = in_range origin (whole_of w) l && in_ranges origin ws ls

-- The sum of (S i − IORG) times the product of the lengths after i.
abbrev pub ravel_offset : ℕ → List ℕ → List ℕ → ℕ
ravel_offset origin [] ls = 0
ravel_offset origin (w ∷ ws) [] = 0
ravel_offset origin (w ∷ ws) (l ∷ ls) = offset origin (whole_of w) * product ls + ravel_offset origin ws ls

-- Each line is judged over all subscripts before the next.
unfoldable pub ravel_place : ℕ → List ℕ → List ℕ → OrTrap ℕ
ravel_place origin subscripts lengths =
    stop_if (any is_character subscripts) 7 0
    (stop_if (any (λ w. is_fraction (whole_of w)) subscripts) 8 5
    (stop_if (not (in_ranges origin subscripts lengths)) 9 2
    (gives (ravel_offset origin subscripts lengths))))
