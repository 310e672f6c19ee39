-- Operands that are taken as scalars one after the other are taken as the manual's lists say.
use Prim.Native.Nat.{ℕ, suc, ◌+◌, ◌-◌, ◌≤◌, ◌<◌}
use native.Mathlib.Numerals.{add-one}
use native.Mathlib.Omega.{arith}
use mathlib.Core.Path.{◌≡◌, refl, sym, ap, ◌∙◌}
use mathlib.Core.Bool.{Bool, true, false, cond, not, ◌||◌}
use mathlib.Core.List.{List, [], ◌∷◌, ◌++◌, append-nil}
use lib.ListN.{length, take, set}
use lib.Seq.{take-suc-set, append_snoc}
use borrow.Author.Tests.{ne_eqb}
use Rattle.descriptor.specs.declared.address.SegmentAddress.{SegmentAddress}
use Rattle.descriptor.specs.declared.Kind.{Kind}
use Rattle.descriptor.specs.declared.Kind.TheVariants as K
use Rattle.descriptor.specs.Kinds.{kind_of, scalar_kind, is_scalar}
use Rattle.segment.specs.Blocks.{shape_at, elements_at}
use Rattle.segment.specs.Cells.{Cell, value, invalid}
use Rattle.manual.specs.OrTrap.{gives, trap}
use Rattle.manual.specs.Scalars.{operands, is_scalar_cell, any_cell, cell_word, scalar_words}
use Rattle.effects.specs.Sources.{operand_at}
use Rattle.effects.specs.Seen.{whole, read_kind, read, temporaries, seen}
use Rattle.operands.specs.declared.reading.Value.TheVariants as values
use Rattle.operands.specs.declared.reading.Value.{Value}
use Rattle.std.specs.Prelude.{Option, Some, None, is_some}
use Rattle.operands.specs.Operands.{operand_of_kind, operand_of, is_undefined_kind, is_undefined_word}
use Rattle.operands.specs.Taken.{is_foreign_to, scalars_of, taken_of}
use Rattle.operands.proofs.Whole.{whole-facts}
use Rattle.operands.proofs.Seen.{operand-seen}

-- ---- one operand

abbrev is_other : Option Value → Bool
is_other (Some v) = false
is_other None = true

pub other-none : (o : Option Value) (b : Bool) → is_some o ≡ not b → b ≡ is_other o
other-none (Some v) true e = cc
other-none (Some v) false e = refl
other-none None true e = refl
other-none None false e = cc

array-foreign : (strict b : Bool) (shape ravel : List ℕ) (a : SegmentAddress) → is_foreign_to strict (cond b (value shape ravel) invalid) ≡ is_other (cond b (Some (values.Array a)) None)
array-foreign true true shape ravel a = refl
array-foreign true false shape ravel a = refl
array-foreign false true shape ravel a = refl
array-foreign false false shape ravel a = refl

module _ (s : List ℕ) (w : ℕ) where
  foreign-of-kind : (strict : Bool) (k : Kind) → is_foreign_to strict (read_kind s w k) ≡ cond (is_undefined_kind k) strict (is_other (operand_of_kind s w k))
  foreign-of-kind true (K.Scalar k) = refl
  foreign-of-kind false (K.Scalar k) = refl
  foreign-of-kind strict (K.Array a) = array-foreign strict (whole s a.0) (shape_at s a.0) (elements_at s a.0) a
  foreign-of-kind true (K.Indirect t) = refl
  foreign-of-kind false (K.Indirect t) = refl
  foreign-of-kind true K.Undefined = refl
  foreign-of-kind false K.Undefined = refl
  foreign-of-kind true K.Invalid = refl
  foreign-of-kind false K.Invalid = refl

  foreign-seen : (strict : Bool) → is_foreign_to strict (read s w) ≡ cond (is_undefined_word w) strict (is_other (operand_of s w))
  unfolding read is_undefined_word operand_of
  foreign-seen strict = foreign-of-kind strict (kind_of w)

  pub undefined-foreign : (strict : Bool) → is_undefined_word w ≡ true → is_foreign_to strict (read s w) ≡ strict
  undefined-foreign strict h = foreign-seen strict ∙ rw h

  pub value-foreign : (strict : Bool) (o : Option Value) → is_undefined_word w ≡ false → operand_of s w ≡ o → is_foreign_to strict (read s w) ≡ is_other o
  value-foreign strict o h e = foreign-seen strict ∙ rw (h, e)

  scalar-of-kind : (k : Kind) → is_scalar_cell (read_kind s w k) ≡ scalar_kind k
  scalar-of-kind (K.Scalar k) = refl
  scalar-of-kind (K.Array a) = by_whole (whole s a.0) refl
    where
      by_whole : (b : Bool) → whole s a.0 ≡ b → is_scalar_cell (cond b (value (shape_at s a.0) (elements_at s a.0)) invalid) ≡ false
      by_whole true h = let x = whole-facts s a.0 h in ne_eqb (length (shape_at s a.0)) 0 (λ none. omega arith)
      by_whole false h = refl
  scalar-of-kind (K.Indirect t) = refl
  scalar-of-kind K.Undefined = refl
  scalar-of-kind K.Invalid = refl

  scalar-seen : is_scalar_cell (read s w) ≡ is_scalar w
  unfolding read is_scalar
  scalar-seen = scalar-of-kind (kind_of w)

  word-of-kind : (k : Kind) → scalar_kind k ≡ true → cell_word (read_kind s w k) ≡ w
  word-of-kind (K.Scalar k) h = refl
  word-of-kind (K.Array a) h = cc
  word-of-kind (K.Indirect t) h = cc
  word-of-kind K.Undefined h = cc
  word-of-kind K.Invalid h = cc

  word-seen : is_scalar w ≡ true → cell_word (read s w) ≡ w
  unfolding read is_scalar
  word-seen h = word-of-kind (kind_of w) h

-- ---- one after the other

module _ (s : List ℕ) (i n : ℕ) where
  -- the operands from the k-th on
  abbrev pub from : ℕ → List Cell
  from k = operands (seen s) (i + k) (n - k)

  from_one : (k : ℕ) → i + n ≤ temporaries s → k < n → from k ≡ read s (operand_at s (i + k)) ∷ from (k + 1)
  from_one k there some =
      let left : n - k ≡ suc (n - (k + 1)) = omega arith in
      let next : i + (k + 1) ≡ suc (i + k) = omega arith in
      rw (left, next, operand-seen s (i + k) (omega arith))

  from_start : from 0 ≡ operands (seen s) i n
  from_start = let none : i + 0 ≡ i = omega arith in let all : n - 0 ≡ n = omega arith in rw (none, all)

  from_end : (k : ℕ) → n ≤ k → from k ≡ []
  from_end k past = let none : n - k ≡ 0 = omega arith in rw none

-- No operand before the k-th passes the test.
pub record Passed (test : Cell → Bool) (s : List ℕ) (i n k : ℕ) : Type 0 where
  pub same : any_cell test (operands (seen s) i n) ≡ any_cell test (from s i n k)

pub passed_none : {test : Cell → Bool} {s : List ℕ} {i n : ℕ} → Passed test s i n 0
passed_none {test} {s} {i} {n} = record { same = ap (any_cell test) (sym (from_start s i n)) }

module _ {test : Cell → Bool} {s : List ℕ} {i n k : ℕ} (p : Passed test s i n k) (there : i + n ≤ temporaries s) (some : k < n) where
  here : any_cell test (operands (seen s) i n) ≡ (test (read s (operand_at s (i + k))) || any_cell test (from s i n (k + 1)))
  here = p.same ∙ ap (any_cell test) (from_one s i n k there some)

  pub passed_on : test (read s (operand_at s (i + k))) ≡ false → Passed test s i n (k + 1)
  passed_on h = record { same = here ∙ rw h }

  pub found : test (read s (operand_at s (i + k))) ≡ true → any_cell test (operands (seen s) i n) ≡ true
  found h = here ∙ rw h

pub passed-all : {test : Cell → Bool} {s : List ℕ} {i n k : ℕ} → Passed test s i n k → n ≤ k → any_cell test (operands (seen s) i n) ≡ false
passed-all {test} {s} {i} {n} {k} p past = p.same ∙ ap (any_cell test) (from_end s i n k past)

-- ---- their words

abbrev no_scalar : Cell → Bool
no_scalar c = not (is_scalar_cell c)

no-scalar : (s : List ℕ) (w : ℕ) (b : Bool) → is_scalar w ≡ b → no_scalar (read s w) ≡ not b
no-scalar s w b h = rw (scalar-seen s w, h)

-- The first k operands are scalars, and `out` begins with their words.
pub record Stored (s : List ℕ) (i n : ℕ) (out : List ℕ) (k : ℕ) : Type 0 where
  pub passed : Passed no_scalar s i n k
  pub words : take k out ++ scalar_words (from s i n k) ≡ scalar_words (operands (seen s) i n)

pub stored-none : {s out : List ℕ} {i n : ℕ} → Stored s i n out 0
stored-none {s} {out} {i} {n} = record { passed = passed_none; words = ap scalar_words (from_start s i n) }

module _ {s out : List ℕ} {i n k : ℕ} (stored : Stored s i n out k) (there : i + n ≤ temporaries s) (some : k < n) (w : ℕ) (is : w ≡ operand_at s (i + k)) where
  next-words : k < length out → is_scalar w ≡ true → take (k + 1) (set out k w) ++ scalar_words (from s i n (k + 1)) ≡ scalar_words (operands (seen s) i n)
  next-words room h =
      rw front (append_snoc (take k out) w behind ∙ ap (λ (r : List ℕ). take k out ++ r) (sym one) ∙ stored.words)
    where
      behind : List ℕ
      behind = scalar_words (from s i n (k + 1))

      front : take (k + 1) (set out k w) ≡ take k out ++ (w ∷ [])
      front = rw (add-one k) (take-suc-set out k w room)

      one : scalar_words (from s i n k) ≡ w ∷ behind
      one = ap scalar_words (from_one s i n k there some) ∙ ap (λ (v : ℕ). v ∷ behind) (rw (← is) (word-seen s w h))

  pub stored_on : k < length out → is_scalar w ≡ true → Stored s i n (set out k w) (k + 1)
  stored_on room h =
      record {
        passed = passed_on stored.passed there some (rw (← is) (no-scalar s w true h));
        words = next-words room h;
      }

  pub stored-stop : is_scalar w ≡ false → trap 5 0 ≡ scalars_of (operands (seen s) i n)
  unfolding scalars_of
  stored-stop h = rw (found stored.passed there some (rw (← is) (no-scalar s w false h)))

pub stored-all : {s out : List ℕ} {i n k : ℕ} → Stored s i n out k → k ≡ n → gives (take n out) ≡ scalars_of (operands (seen s) i n)
unfolding scalars_of
stored-all {s} {out} {i} {n} {k} stored e = rw (passed-all stored.passed (omega arith), all)
  where
    all : take n out ≡ scalar_words (operands (seen s) i n)
    all =
        ap (λ (m : ℕ). take m out) (sym e)
        ∙ sym (append-nil (take k out))
        ∙ ap (λ (cells : List Cell). take k out ++ scalar_words cells) (sym (from_end s i n k (omega arith)))
        ∙ stored.words

-- ---- the answers

module _ (strict : Bool) (cells : List Cell) where
  pub foreign-taken : any_cell (is_foreign_to strict) cells ≡ true → trap 3 5 ≡ taken_of strict cells
  unfolding taken_of
  foreign-taken h = rw h

  pub none-foreign : any_cell (is_foreign_to strict) cells ≡ false → scalars_of cells ≡ taken_of strict cells
  unfolding taken_of
  none-foreign h = rw h
