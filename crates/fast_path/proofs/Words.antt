-- Words that name no array: a scalar is read as itself, and operands that are scalars go alone. Variables that hold a word
-- directly.
use Prim.Native.Nat.{ℕ, ◌+◌, ◌-◌, ◌/◌, ◌^◌, ◌<◌}
use native.Mathlib.Omega.{arith}
use mathlib.Core.Path.{◌≡◌, refl, ap, ◌∙◌}
use mathlib.Core.Bool.{Bool, true, false, cond, ◌||◌}
use mathlib.Core.List.{List, [], ◌∷◌}
use lib.Dec.{eqb}
use lib.ListN.{get_or, set}
use lib.Seq.{get_or-set_other, set-get_or}
use borrow.Author.Tests.{eqb-true, eqb-false}
use Rattle.descriptor.specs.declared.Kind.{Kind}
use Rattle.descriptor.specs.declared.Kind.TheVariants as K
use Rattle.descriptor.specs.declared.Target.{Target}
use Rattle.descriptor.specs.Fields.{is_array, address, array_word, undefined_word}
use Rattle.descriptor.specs.Kinds.{kind_of, scalar_kind, is_scalar, segment, integer_kind, unsigned_kind, undefined_kind}
use Rattle.descriptor.proofs.Arrays.{array_kind_lem}
use Rattle.segment.specs.State.{sbase, ltop, set_ltop}
use Rattle.segment.specs.Blocks.{shape_at, elements_at}
use Rattle.segment.specs.Cells.{Cell, undefined, value, invalid}
use Rattle.storage.specs.Arrays.{drop_words}
use Rattle.storage.proofs.Counts.{drop-other}
use Rattle.manual.specs.OrTrap.{OrTrap, gives}
use Rattle.manual.specs.Seen.{Variable, at, followed, follow}
use Rattle.manual.specs.Loads.{is_undefined}
use Rattle.manual.specs.Values.{scalar}
use Rattle.manual.specs.Scalars.{value_of}
use Rattle.effects.specs.Sources.{held_at, operand_at}
use Rattle.effects.specs.Seen.{whole, read_kind, read, temporaries, seen}
use Rattle.effects.specs.Perform.{bottom_of, discard}
use Rattle.operands.proofs.Seen.{operand-seen}
use Rattle.fast_path.specs.Naming.{variable_at, is_plain}

module _ (w : ℕ) where
  array-kinds : is_array w ≡ true → kind_of w ≡ K.Array (segment (address w))
  array-kinds array =
      let again : w ≡ array_word (address w) = omega (arith, eqb-true (w / 2 ^ 16) 0x200 array) in
      ap kind_of again ∙ array_kind_lem (address w) (omega arith)

  pub scalar-no-array : is_scalar w ≡ true → is_array w ≡ false
  unfolding is_scalar
  scalar-no-array scalar = by-test (is_array w) refl
    where
      by-test : (b : Bool) → is_array w ≡ b → b ≡ false
      by-test true array = let other : scalar_kind (kind_of w) ≡ false = ap scalar_kind (array-kinds array) in cc
      by-test false none = refl

  pub scalar_read : (s : List ℕ) → is_scalar w ≡ true → read s w ≡ value [] (w ∷ [])
  unfolding is_scalar read
  scalar_read s scalar = by_kind (kind_of w) scalar
    where
      by_kind : (k : Kind) → scalar_kind k ≡ true → read_kind s w k ≡ value [] (w ∷ [])
      by_kind (K.Scalar k) h = refl
      by_kind (K.Array a) h = cc
      by_kind (K.Indirect t) h = cc
      by_kind K.Undefined h = cc
      by_kind K.Invalid h = cc

  pub plain-no-array : is_plain w ≡ true → is_array w ≡ false
  plain-no-array plain = by-test (eqb w undefined_word) refl plain
    where
      by-test : (b : Bool) → eqb w undefined_word ≡ b → (b || is_scalar w) ≡ true → is_array w ≡ false
      by-test true e plain = ap is_array (eqb-true w undefined_word e)
      by-test false e plain = scalar-no-array plain

-- ---- a variable that holds such a word, or an array, is found with no indirection

undefined-read : (s : List ℕ) → read s undefined_word ≡ undefined
unfolding read kind_of integer_kind unsigned_kind undefined_kind
undefined-read s = refl

module _ (s : List ℕ) (t : Target) where
  abbrev w : ℕ
  w = held_at s t

  -- The variable itself.
  abbrev pub itself : OrTrap Variable
  itself = gives (at t (read s w))

  pub scalar-held : is_scalar w ≡ true → variable_at s t ≡ itself
  scalar-held scalar = rw (scalar_read w s scalar)

  pub scalar-referred : is_scalar w ≡ true → followed t (read s w) ≡ itself
  scalar-referred scalar = rw (scalar_read w s scalar)

  pub scalar-defined : is_scalar w ≡ true → is_undefined (read s w) ≡ false
  scalar-defined scalar = rw (scalar_read w s scalar)

  pub plain-held : is_plain w ≡ true → variable_at s t ≡ itself
  plain-held plain = by-test (eqb w undefined_word) refl plain
    where
      by-test : (b : Bool) → eqb w undefined_word ≡ b → (b || is_scalar w) ≡ true → variable_at s t ≡ itself
      by-test true e plain = rw (eqb-true w undefined_word e, undefined-read s)
      by-test false e plain = scalar-held plain

  module _ (array : is_array w ≡ true) where
    abbrev block : ℕ
    block = address w

    array-read : read s w ≡ cond (whole s block) (value (shape_at s block) (elements_at s block)) invalid
    unfolding read
    array-read = rw (array-kinds w array)

    abbrev found : Bool → Cell
    found b = cond b (value (shape_at s block) (elements_at s block)) invalid

    pub array-held : variable_at s t ≡ itself
    array-held = rw array-read (by-test (whole s block))
      where
        by-test : (b : Bool) → follow (λ u. read s (held_at s u)) t (found b) ≡ gives (at t (found b))
        by-test true = refl
        by-test false = refl

    pub array-referred : followed t (read s w) ≡ itself
    array-referred = rw array-read (by-test (whole s block))
      where
        by-test : (b : Bool) → followed t (found b) ≡ gives (at t (found b))
        by-test true = refl
        by-test false = refl

    pub array-defined : is_undefined (read s w) ≡ false
    array-defined = rw array-read (by-test (whole s block))
      where
        by-test : (b : Bool) → is_undefined (found b) ≡ false
        by-test true = refl
        by-test false = refl

-- One that refers to another leads to that.
pub refers : (s : List ℕ) (t u : Target) → kind_of (held_at s t) ≡ K.Indirect u → variable_at s t ≡ followed u (read s (held_at s u))
unfolding read
refers s t u kind = rw kind

-- An operand that is a scalar.
pub scalar-operand : (s : List ℕ) (i : ℕ) → i < temporaries s → is_scalar (operand_at s i) ≡ true → value_of ((seen s).operand i) ≡ gives (scalar (operand_at s i))
scalar-operand s i there plain = rw (operand-seen s i there, scalar_read (operand_at s i) s plain)

-- Operands that name no array go.
pub dropped-two : (s : List ℕ) (b : ℕ) → is_array (get_or s (b + 1) 0) ≡ false → is_array (get_or s b 0) ≡ false → drop_words 2 s b ≡ s
dropped-two s b first second =
    let low : b + 0 ≡ b = omega arith in
    rw (drop-other s (get_or s (b + 1) 0) first, low, drop-other s (get_or s b 0) second)

pub discarded : (s : List ℕ) → is_array (operand_at s 0) ≡ false → discard s 1 ≡ set_ltop s (ltop s - 1)
unfolding discard
discarded s none =
    let top : bottom_of s 1 + 0 ≡ sbase s + ltop s - 0 = omega arith in
    rw (top, drop-other s (operand_at s 0) none)

-- A cell that is written with the word of another: that word stays.
pub copied-stays : (s : List ℕ) (i j : ℕ) → get_or (set s i (get_or s j 0)) j 0 ≡ get_or s j 0
copied-stays s i j = by-test (eqb j i) refl
  where
    by-test : (b : Bool) → eqb j i ≡ b → get_or (set s i (get_or s j 0)) j 0 ≡ get_or s j 0
    by-test true e = let same : j ≡ i = eqb-true j i e in rw (same, set-get_or)
    by-test false e = get_or-set_other s i j (get_or s j 0) 0 (eqb-false j i e)
