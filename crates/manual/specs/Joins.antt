-- CATENATE by document 02's request 6, sentence by sentence and for any shapes: what its definition comes to. A shape of rows is told by
-- its form, and not by the definition's tests. Proved in proofs/Joins. Assumes nothing.
use Rattle.std.specs.Prelude.{ℕ, ◌+◌, ◌*◌, ◌^◌, ◌<◌, ◌≤◌, ◌≡◌, ◌≢◌, List, [], ◌∷◌, ◌++◌, get_or}
use Rattle.segment.specs.Blocks.{product}
use Rattle.manual.specs.OrTrap.{gives, trap}
use Rattle.manual.specs.Values.{Value, value, rank, size, catenate}

-- A shape of n rows of width w: that of a matrix, or of a vector, which counts as one row.
pub data RowsOf : ℕ → ℕ → List ℕ → Type 0 where
  matrix : (n w : ℕ) → RowsOf n w (n ∷ w ∷ [])
  row : (w : ℕ) → RowsOf 1 w (w ∷ [])

-- What one operand is beside the other: rows, of which one at least are a matrix's.
pub record Rows (m v n w : ℕ) (a b : Value) : Type 0 where
  pub first : RowsOf m v a.shape
  pub second : RowsOf n w b.shape
  pub table : 3 ≤ rank a + rank b

pub record JoinTheorems : Type 0 where
  -- "The elements are the first operand's ravel and then the second's, by one fact for vectors and matrices."
  pub elements : (a b v : Value) → catenate a b ≡ gives v → v.ravel ≡ a.ravel ++ b.ravel
  -- and they are as many as the shape has
  pub all : (a b v : Value) → catenate a b ≡ gives v → product a.shape ≡ size a → product b.shape ≡ size b → product v.shape ≡ size v
  -- scalars and vectors, as before: a vector, or a length error
  pub vector : (a b : Value) → rank a ≤ 1 → rank b ≤ 1 → product a.shape + product b.shape < 2 ^ 16
      → catenate a b ≡ gives (value ((product a.shape + product b.shape) ∷ []) (a.ravel ++ b.ravel))
  pub too_long : (a b : Value) → rank a ≤ 1 → rank b ≤ 1 → 2 ^ 16 ≤ product a.shape + product b.shape → catenate a b ≡ trap 6 0
  -- "Two matrices with equal last lengths are to be joined along the first coordinate, and a vector counts as one row"
  pub matrix : (m n w : ℕ) (a b : Value) → Rows m w n w a b → m + n < 2 ^ 16 → catenate a b ≡ gives (value ((m + n) ∷ w ∷ []) (a.ravel ++ b.ravel))
  -- row i of the join is row i of the first operand; the rows after those are the second's
  pub first_rows : (m n w i j : ℕ) (a b v : Value) → Rows m w n w a b → size a ≡ m * w → catenate a b ≡ gives v
      → i < m → j < w → get_or v.ravel (i * w + j) 0 ≡ get_or a.ravel (i * w + j) 0
  pub later_rows : (m n w i j : ℕ) (a b v : Value) → Rows m w n w a b → size a ≡ m * w → catenate a b ≡ gives v
      → get_or v.ravel ((m + i) * w + j) 0 ≡ get_or b.ravel (i * w + j) 0
  -- "unequal widths, or rows beside a matrix that together pass 65,535, give (6,0)"
  pub widths : (m v n w : ℕ) (a b : Value) → Rows m v n w a b → v ≢ w → catenate a b ≡ trap 6 0
  pub too_many : (m n w : ℕ) (a b : Value) → Rows m w n w a b → 65535 < m + n → catenate a b ≡ trap 6 0
  -- "A scalar beside a matrix is (5,0)"; "Other ranks above one remain (5,0)"
  pub scalar_above : (a b : Value) → rank a ≡ 0 → 2 ≤ rank b → catenate a b ≡ trap 5 0
  pub scalar_below : (a b : Value) → 2 ≤ rank a → rank b ≡ 0 → catenate a b ≡ trap 5 0
  pub first_rank : (a b : Value) → 3 ≤ rank a → catenate a b ≡ trap 5 0
  pub second_rank : (a b : Value) → 3 ≤ rank b → catenate a b ≡ trap 5 0
