-- The theorem of specs/Joins: the ways through the definition of CATENATE.
use Prim.Native.Nat.{ℕ, ◌+◌, ◌*◌, ◌^◌, ◌<◌, ◌≤◌}
use mathlib.Core.Path.{◌≡◌, refl, sym, ap, subst, ◌∙◌}
use mathlib.Core.Logic.{◌≢◌}
use mathlib.Core.Bool.{true, false, not, ◌&&◌}
use mathlib.Core.List.{List, [], ◌∷◌, ◌++◌}
use native.Mathlib.Nat.{add-mul, mul-one}
use native.Mathlib.Omega.{arith}
use lib.Dec.{leb, eqb}
use lib.ListN.{get_or, length, length-append, get_or-append}
use lib.Seq.{get_or-append-add}
use borrow.Author.Tests.{le-leb, lt-leb, leb-true, leb-false, eq-eqb, ne_eqb, eqb-true, not-false}
use Rattle.descriptor.proofs.Truth.{fails}
use Rattle.segment.specs.Blocks.{product}
use Rattle.manual.specs.OrTrap.{OrTrap, gives, trap, and_then, stop_if}
use Rattle.manual.specs.Values.{Value, value, size, has_rows, rows, width, lengthened, joined_shape, catenate}
use Rattle.manual.specs.Cases.{OfPlan}
use Rattle.manual.specs.Joins.{RowsOf, matrix, row, JoinTheorems}
use Rattle.manual.proofs.Lists.{stops, either}
use Rattle.manual.proofs.Tests.{both_hold}
use Rattle.manual.proofs.Elements.{row_below}

-- ---- what holds of each shape of a join holds of every one

module _ (P : List ℕ → Type 0) (T : ℕ → ℕ → Type 0) (long : T 6 0) where
  lengthened-cases : (n : ℕ) (lengths : List ℕ) → (n < 2 ^ 16 → P (n ∷ lengths)) → OfPlan P T (lengthened n lengths)
  lengthened-cases n lengths h = stops P T (leb (2 ^ 16) n) 6 0 _ long (λ e. h (leb-false (2 ^ 16) n e))

  pub joined-cases : (a b : List ℕ) → T 5 0
      → (product a + product b < 2 ^ 16 → P ((product a + product b) ∷ []))
      → (has_rows a ≡ true → has_rows b ≡ true → width a ≡ width b → rows a + rows b < 2 ^ 16 → P ((rows a + rows b) ∷ width a ∷ []))
      → OfPlan P T (joined_shape a b)
  unfolding joined_shape
  joined-cases a b ranks plain table =
      either P T (leb (length a) 1 && leb (length b) 1) _ _ (λ e. lengthened-cases (product a + product b) [] plain) (λ e.
      stops P T (not (has_rows a && has_rows b)) 5 0 _ ranks (λ r.
      let both = both_hold (has_rows a) (has_rows b) (not-false (has_rows a && has_rows b) r) in
      stops P T (not (eqb (width a) (width b))) 6 0 _ long (λ w.
      lengthened-cases (rows a + rows b) (width a ∷ []) (table both.0 both.1 (eqb-true (width a) (width b) (not-false _ w))))))

-- ---- the shape of a join, by its ways

-- a shape of rows has one length or two, and as many elements as its rows have
pub rows-rank : (a : List ℕ) → has_rows a ≡ true → (1 ≤ length a) × (length a ≤ 2)
rows-rank a h = let k = both_hold (leb 1 (length a)) (leb (length a) 2) h in (leb-true 1 (length a) k.0, leb-true (length a) 2 k.1)

rows-product : (a : List ℕ) → has_rows a ≡ true → product a ≡ rows a * width a
rows-product [] h = absurd (omega (arith, rows-rank [] h))
rows-product (w ∷ []) h = omega arith
rows-product (n ∷ w ∷ []) h = omega arith
rows-product (n ∷ w ∷ l ∷ a) h = absurd (omega (arith, rows-rank (n ∷ w ∷ l ∷ a) h))

pub rows-size : (a b : List ℕ) → has_rows a ≡ true → has_rows b ≡ true → width a ≡ width b → (rows a + rows b) * (width a * 1) ≡ product a + product b
rows-size a b p q w = rw (rows-product a p, rows-product b q, ← w, mul-one (width a)) (add-mul (rows a) (rows b) (width a))

module _ (a b : List ℕ) where
  joined-plain : length a ≤ 1 → length b ≤ 1 → joined_shape a b ≡ lengthened (product a + product b) []
  unfolding joined_shape
  joined-plain p q = simp (le-leb (length a) 1 p, le-leb (length b) 1 q)

  pub joined-table : (leb (length a) 1 && leb (length b) 1) ≡ false → has_rows a ≡ true → has_rows b ≡ true → width a ≡ width b
      → joined_shape a b ≡ lengthened (rows a + rows b) (width a ∷ [])
  unfolding joined_shape
  joined-table high p q w = rw (high, p, q, eq-eqb (width a) (width b) w)

  joined-unlike : (length a ≤ 1 → length b ≤ 1 → ⊥) → (has_rows a ≡ true → has_rows b ≡ true → ⊥) → joined_shape a b ≡ trap 5 0
  unfolding joined_shape
  joined-unlike p q =
      let high = fails (leb (length a) 1 && leb (length b) 1) (λ h. let k = both_hold (leb (length a) 1) (leb (length b) 1) h in p (leb-true (length a) 1 k.0) (leb-true (length b) 1 k.1)) in
      let unlike = fails (has_rows a && has_rows b) (λ h. let k = both_hold (has_rows a) (has_rows b) h in q k.0 k.1) in
      rw (high, unlike)

  joined-size : OfPlan (λ shape. product shape ≡ product a + product b) (λ class number. Unit {0}) (joined_shape a b)
  joined-size =
      joined-cases (λ shape. product shape ≡ product a + product b) (λ class number. Unit {0}) tt a b tt (λ few. omega arith) (λ p q w few. rows-size a b p q w)

joined-rows : {m v n w : ℕ} {a b : List ℕ} → RowsOf m v a → RowsOf n w b → 3 ≤ length a + length b
    → joined_shape a b ≡ stop_if (not (eqb v w)) 6 0 (lengthened (m + n) (v ∷ []))
unfolding joined_shape
joined-rows (matrix m v) (matrix n w) t = refl
joined-rows (matrix m v) (row w) t = refl
joined-rows (row v) (matrix n w) t = refl
joined-rows (row v) (row w) t = absurd (omega arith)

-- ---- the join

module _ (a b : Value) where
  joined_as : {r : OrTrap (List ℕ)} → joined_shape a.shape b.shape ≡ r → catenate a b ≡ and_then r (λ shape. gives (value shape (a.ravel ++ b.ravel)))
  unfolding catenate
  joined_as e = rw e

  -- what is given has the shape of the join, and both ravels
  joined-parts : (v : Value) → catenate a b ≡ gives v → (joined_shape a.shape b.shape ≡ gives v.shape) × (v.ravel ≡ a.ravel ++ b.ravel)
  unfolding catenate
  joined-parts v e = go (joined_shape a.shape b.shape) refl e
    where
      go : (r : OrTrap (List ℕ)) → joined_shape a.shape b.shape ≡ r → and_then r (λ shape. gives (value shape (a.ravel ++ b.ravel))) ≡ gives v
          → (r ≡ gives v.shape) × (v.ravel ≡ a.ravel ++ b.ravel)
      go (gives shape) q e = let same : value shape (a.ravel ++ b.ravel) ≡ v = cc in (ap (λ (x : Value). gives x.shape) same, ap (λ (x : Value). x.ravel) (sym same))
      go (trap class number) q e = let never : ◌≡◌ {A = ℕ} 0 1 = cc in absurd (omega arith)

pub join-theorems : JoinTheorems
join-theorems = record {
  elements = λ a b v e. (joined-parts a b v e).1;
  all = λ a b v e p q. rw ((joined-parts a b v e).1, length-append a.ravel b.ravel, ← p, ← q) (given-size a b v (joined-parts a b v e).0);
  vector = λ a b p q few. joined_as a b (joined-plain a.shape b.shape p q ∙ few-lengths (product a.shape + product b.shape) [] few);
  too_long = λ a b p q many. joined_as a b (joined-plain a.shape b.shape p q ∙ many-lengths (product a.shape + product b.shape) [] many);
  matrix = λ m n w a b r few. joined_as a b (joined-rows r.first r.second r.table ∙ same_width w (few-lengths (m + n) (w ∷ []) few));
  first_rows = λ m n w i j a b v r all e below inside. rw (joined-parts a b v e).1 (get_or-append a.ravel b.ravel 0 (i * w + j) (rw all (row_below i m w j below inside)));
  later_rows = λ m n w i j a b v r all e.
      rw (joined-parts a b v e).1
      (ap (λ (k : ℕ). get_or (a.ravel ++ b.ravel) k 0) (later m w i j (size a) all) ∙ get_or-append-add a.ravel b.ravel (i * w + j) 0);
  widths = λ m v n w a b r unequal. joined_as a b (joined-rows r.first r.second r.table ∙ other_width v w unequal _);
  too_many = λ m n w a b r many. joined_as a b (joined-rows r.first r.second r.table ∙ same_width w (many-lengths (m + n) (w ∷ []) many));
  scalar_above = λ a b p q. joined_as a b (joined-unlike a.shape b.shape (λ x y. omega (arith, p, q, x, y)) (λ x y. omega (arith, p, rows-rank a.shape x)));
  scalar_below = λ a b p q. joined_as a b (joined-unlike a.shape b.shape (λ x y. omega (arith, p, q, x, y)) (λ x y. omega (arith, q, rows-rank b.shape y)));
  first_rank = λ a b p. joined_as a b (joined-unlike a.shape b.shape (λ x y. omega (arith, p, x)) (λ x y. omega (arith, p, rows-rank a.shape x)));
  second_rank = λ a b p. joined_as a b (joined-unlike a.shape b.shape (λ x y. omega (arith, p, y)) (λ x y. omega (arith, p, rows-rank b.shape y)));
}
  where
    few-lengths : (n : ℕ) (lengths : List ℕ) → n < 2 ^ 16 → lengthened n lengths ≡ gives (n ∷ lengths)
    few-lengths n lengths few = simp (lt-leb (2 ^ 16) n few)

    many-lengths : (n : ℕ) (lengths : List ℕ) → 2 ^ 16 ≤ n → lengthened n lengths ≡ trap 6 0
    many-lengths n lengths many = simp (le-leb (2 ^ 16) n many)

    same_width : (w : ℕ) {x y : OrTrap (List ℕ)} → x ≡ y → stop_if (not (eqb w w)) 6 0 x ≡ y
    same_width w e = rw (eq-eqb w w refl) e

    other_width : (v w : ℕ) → v ≢ w → (x : OrTrap (List ℕ)) → stop_if (not (eqb v w)) 6 0 x ≡ trap 6 0
    other_width v w unequal x = rw (ne_eqb v w unequal)

    given-size : (a b v : Value) → joined_shape a.shape b.shape ≡ gives v.shape → product v.shape ≡ product a.shape + product b.shape
    given-size a b v e = subst (OfPlan (λ shape. product shape ≡ product a.shape + product b.shape) (λ class number. Unit {0})) e (joined-size a.shape b.shape)

    later : (m w i j n : ℕ) → n ≡ m * w → (m + i) * w + j ≡ n + (i * w + j)
    later m w i j n all = omega (arith, all, add-mul m i w)
