-- Cells met one after the other: each is one mark more at the array that it points to.
use Prim.Native.Nat.{ℕ, ◌+◌, ◌/◌, ◌%◌, ◌^◌, ◌<◌, ◌≤◌}
use mathlib.Core.Path.{◌≡◌, refl, sym, ◌∙◌}
use mathlib.Core.Bool.{Bool, true, false, cond, ◌&&◌}
use mathlib.Core.List.{List, [], ◌∷◌, ◌++◌}
use mathlib.Core.Logic.{⊎_elim}
use native.Mathlib.Numerals.{add-one}
use native.Mathlib.Omega.{arith}
use lib.ListN.{get_or, set, length, drop, drop_of_length-le, get_or-eq_default}
use lib.Seq.{drop-cons}
use lib.Dec.{leb, eqb}
use borrow.Author.Tests.{leb-true, leb-false, eqb-true, eqb-false, le-leb, lt-leb, eq-eqb, ne_eqb}
use Rattle.descriptor.specs.Fields.{integer_limit, is_array, address, array_word, undefined_word}
use Rattle.descriptor.specs.Kinds.{is_scalar}
use Rattle.descriptor.proofs.Scalars.{small-scalar, large-scalar}
use Rattle.storage.specs.Heap.{hit, count}
use Rattle.storage_theorems.proofs.Counts.{hit-cases, hit-not, count-append}
use Rattle.acceptance_storage.specs.Tests.{every}
use Rattle.acceptance_storage.proofs.Tests.{every-on, every-bad, every-end}
use Rattle.acceptance_storage.proofs.Tallies.{inside-table, raise-at}
use Rattle.acceptance.specs.Cells.{in_table, direct, free_cell}
use Rattle.acceptance.specs.Tables.{CanRise, meet, Met}

-- A word is the array's at `x` where it is an array's word and that is its address.
module _ (x w : ℕ) (small : x < 2 ^ 16) where
  pointed : w / 2 ^ 16 ≡ 0x200 → hit (array_word x) w ≡ hit x (w % 2 ^ 16)
  pointed k =
      ⊎_elim (λ (e : (array_word x ≡ w) × (hit (array_word x) w ≡ 1)). ⊎_elim (λ (d : (x ≡ w % 2 ^ 16) × (hit x (w % 2 ^ 16) ≡ 1)). omega (arith, e.1, d.1))
      (λ (d : (x ≡ w % 2 ^ 16 → ⊥) × (hit x (w % 2 ^ 16) ≡ 0)). absurd (d.0 (omega (arith, e.0)))) (hit-cases x (w % 2 ^ 16)))
      (λ (e : (array_word x ≡ w → ⊥) × (hit (array_word x) w ≡ 0)). ⊎_elim (λ (d : (x ≡ w % 2 ^ 16) × (hit x (w % 2 ^ 16) ≡ 1)). absurd (e.0 (omega (arith, d.0))))
      (λ (d : (x ≡ w % 2 ^ 16 → ⊥) × (hit x (w % 2 ^ 16) ≡ 0)). omega (arith, e.1, d.1)) (hit-cases x (w % 2 ^ 16)))
      (hit-cases (array_word x) w)

  elsewhere : (w / 2 ^ 16 ≡ 0x200 → ⊥) → hit (array_word x) w ≡ 0
  elsewhere k =
      ⊎_elim (λ (e : (array_word x ≡ w) × (hit (array_word x) w ≡ 1)). absurd (k (omega (arith, e.0))))
      (λ (e : (array_word x ≡ w → ⊥) × (hit (array_word x) w ≡ 0)). e.1) (hit-cases (array_word x) w)

-- What a cell does to the table.
module _ (table : List ℕ) (w : ℕ) where
  pub meet-other : (w / 2 ^ 16 ≡ 0x200 → ⊥) → table ≡ meet table w
  unfolding meet
  meet-other k = simp (ne_eqb (w / 2 ^ 16) 0x200 k)

  pub meet-array : w / 2 ^ 16 ≡ 0x200
      → cond (leb 1 (get_or table (address w) 0)) (set table (address w) (get_or table (address w) 0 + 1)) table ≡ meet table w
  unfolding meet
  meet-array k = simp (eq-eqb (w / 2 ^ 16) 0x200 k)

-- One mark more at an address that has one, as the code does it.
module _ (table : List ℕ) (a : ℕ) where
  pub unmarked : get_or table a 0 < 1
      → (false ≡ leb 1 (get_or table a 0)) × (table ≡ cond (leb 1 (get_or table a 0)) (set table a (get_or table a 0 + 1)) table)
  unmarked l = let e = lt-leb 1 (get_or table a 0) l in (sym e, simp e)

  pub past : length table ≤ a
      → (false ≡ leb 1 (get_or table a 0)) × (table ≡ cond (leb 1 (get_or table a 0)) (set table a (get_or table a 0 + 1)) table)
  past l = unmarked (omega (arith, get_or-eq_default table 0 l))

  pub marked : 1 ≤ get_or table a 0
      → (true ≡ leb 1 (get_or table a 0))
      × (set table a (get_or table a 0 + 1) ≡ cond (leb 1 (get_or table a 0)) (set table a (get_or table a 0 + 1)) table)
  marked l = let e = le-leb 1 (get_or table a 0) l in (sym e, simp e)

-- A mark more at a marked address.
module _ (table : List ℕ) (a : ℕ) (marked : 1 ≤ get_or table a 0) (x : ℕ) where
  more : get_or (set table a (get_or table a 0 + 1)) x 0 ≡ get_or table x 0 + hit x a
  more = raise-at table a x (inside-table table a marked)

  still : leb 1 (get_or (set table a (get_or table a 0 + 1)) x 0) ≡ leb 1 (get_or table x 0)
  still =
      ⊎_elim (λ (e : (x ≡ a) × (hit x a ≡ 1)). le-leb 1 (get_or (set table a (get_or table a 0 + 1)) x 0) (omega (arith, more, e.1)) ∙ sym (le-leb 1 (get_or table x 0) (rw e.0 marked)))
      (λ (e : (x ≡ a → ⊥) × (hit x a ≡ 0)). let k : get_or (set table a (get_or table a 0 + 1)) x 0 ≡ get_or table x 0 = omega (arith, more, e.1) in rw k)
      (hit-cases x a)

pub met-word : (table : List ℕ) (w : ℕ) → Met table (meet table w) (w ∷ [])
met-word table w = go (eqb (w / 2 ^ 16) 0x200) refl (leb 1 (get_or table (address w) 0)) refl
  where
    go : (a : Bool) → eqb (w / 2 ^ 16) 0x200 ≡ a → (m : Bool) → leb 1 (get_or table (address w) 0) ≡ m → Met table (meet table w) (w ∷ [])
    go false e m k =
        let z = eqb-false (w / 2 ^ 16) 0x200 e in
        rw (← meet-other table w z) (record { same = λ x. refl; sum = λ x l j. omega (arith, elsewhere x w l z) })
    go true e false k =
        let z = eqb-true (w / 2 ^ 16) 0x200 e in
        rw (← meet-array table w z, k) (record {
          same = λ x. refl;
          sum = λ x l j. omega (arith, pointed x w l z, hit-not x (w % 2 ^ 16) (λ d. omega (arith, leb-false 1 (get_or table (address w) 0) k, rw d at j)));
        })
    go true e true k =
        let z = eqb-true (w / 2 ^ 16) 0x200 e in
        let m = leb-true 1 (get_or table (address w) 0) k in
        rw (← meet-array table w z, k) (record { same = still table (address w) m; sum = λ x l j. omega (arith, pointed x w l z, more table (address w) m x) })

pub meet-most : (table : List ℕ) (w x : ℕ) → get_or (meet table w) x 0 ≤ get_or table x 0 + 1
meet-most table w x = go (eqb (w / 2 ^ 16) 0x200) refl (leb 1 (get_or table (address w) 0)) refl
  where
    go : (a : Bool) → eqb (w / 2 ^ 16) 0x200 ≡ a → (m : Bool) → leb 1 (get_or table (address w) 0) ≡ m → get_or (meet table w) x 0 ≤ get_or table x 0 + 1
    go false e m k = rw (← meet-other table w (eqb-false (w / 2 ^ 16) 0x200 e)) (omega arith)
    go true e false k = rw (← meet-array table w (eqb-true (w / 2 ^ 16) 0x200 e), k) (omega arith)
    go true e true k =
        rw (← meet-array table w (eqb-true (w / 2 ^ 16) 0x200 e), k)
        (⊎_elim (λ (d : (x ≡ address w) × (hit x (address w) ≡ 1)). omega (arith, more table (address w) (leb-true 1 (get_or table (address w) 0) k) x, d.1))
        (λ (d : (x ≡ address w → ⊥) × (hit x (address w) ≡ 0)). omega (arith, more table (address w) (leb-true 1 (get_or table (address w) 0) k) x, d.1))
        (hit-cases x (address w)))

-- Cells after cells.
pub still_marked : (before after : List ℕ) → ((x : ℕ) → leb 1 (get_or after x 0) ≡ leb 1 (get_or before x 0)) → (x : ℕ) → 1 ≤ get_or before x 0 → 1 ≤ get_or after x 0
still_marked before after same x j = leb-true 1 (get_or after x 0) (same x ∙ le-leb 1 (get_or before x 0) j)

pub met-then : {before between after l m : List ℕ} → Met before between l → Met between after m → Met before after (l ++ m)
met-then {before} {between} {after} {l} {m} h k = record {
  same = λ x. k.same x ∙ h.same x;
  sum = λ x s j. omega (arith, h.sum x s j, k.sum x s (still_marked before between h.same x j), count-append (array_word x) l m);
}

-- A test that goes by what has a mark.
abbrev pub ByMarks : ((ℕ → ℕ) → ℕ → Bool) → Type 0
ByMarks test = (a b : ℕ → ℕ) → ((x : ℕ) → leb 1 (b x) ≡ leb 1 (a x)) → (w : ℕ) → test b w ≡ test a w

-- The loop over a run of cells, each by its test: what was met and what is left make up the whole.
pub record Meeting (test : (ℕ → ℕ) → ℕ → Bool) (before table cells : List ℕ) (i : ℕ) : Type 0 where
  pub low : i ≤ length cells
  pub passed : every (test (in_table before)) cells ≡ every (test (in_table before)) (drop i cells)
  pub same : (x : ℕ) → leb 1 (get_or table x 0) ≡ leb 1 (get_or before x 0)
  pub sum : (x : ℕ) → x < 2 ^ 16 → 1 ≤ get_or before x 0
      → get_or table x 0 + count (array_word x) (drop i cells) ≡ get_or before x 0 + count (array_word x) cells
  pub most : (x : ℕ) → get_or table x 0 ≤ get_or before x 0 + i

pub meeting-start : (test : (ℕ → ℕ) → ℕ → Bool) (table cells : List ℕ) → Meeting test table table cells 0
meeting-start test table cells = record { low = omega arith; passed = refl; same = λ x. refl; sum = λ x l j. refl; most = λ x. omega arith }

module _ {test : (ℕ → ℕ) → ℕ → Bool} {before table cells : List ℕ} {i : ℕ} (h : Meeting test before table cells i) where
  pub meeting-done : length cells ≤ i
      → (true ≡ every (test (in_table before)) cells)
      × ((true ≡ true → Met before table cells) × (true ≡ true → (x : ℕ) → get_or table x 0 ≤ get_or before x 0 + length cells))
  meeting-done l = (
    sym (h.passed ∙ every-end (test (in_table before)) cells i l),
    (
      λ t. record { same = h.same; sum = λ x s j. omega (arith, rw (drop_of_length-le cells l) at (h.sum x s j)) },
      λ t x. omega (arith, h.most x, h.low),
    ),
  )

  module _ (l : i < length cells) where
    pub meeting-room : CanRise before (length cells) → (x : ℕ) → get_or table x 0 < 65535
    meeting-room r x = omega (arith, r x, h.most x)

    module _ (marks : ByMarks test) {r : Bool} (q : r ≡ test (in_table table) (get_or cells i 0)) where
      pub meeting-bad : r ≡ false → false ≡ every (test (in_table before)) cells
      meeting-bad e =
          sym (h.passed ∙ every-bad (test (in_table before)) cells i l (sym (marks (in_table before) (in_table table) h.same (get_or cells i 0)) ∙ sym q ∙ e))

      pub meeting-on : r ≡ true → {after : List ℕ} → after ≡ meet table (get_or cells i 0) → Meeting test before after cells (i + 1)
      meeting-on e {after} k =
          let d : drop i cells ≡ get_or cells i 0 ∷ drop (i + 1) cells = rw (add-one i) (drop-cons cells i 0 l) in
          let m = met-word table (get_or cells i 0) in
          rw k (record {
            low = omega arith;
            passed = h.passed ∙ every-on (test (in_table before)) cells i l (sym (marks (in_table before) (in_table table) h.same (get_or cells i 0)) ∙ sym q ∙ e);
            same = λ x. m.same x ∙ h.same x;
            sum = λ x s j. omega (arith, rw d at (h.sum x s j), m.sum x s (still_marked before table h.same x j));
            most = λ x. omega (arith, meet-most table (get_or cells i 0) x, h.most x);
          })

-- The tests go by what has a mark, not by how many.
pub direct-alike : ByMarks direct
unfolding direct
direct-alike a b same w = rw (same (address w))

pub free-alike : (s : List ℕ) (variable : ℕ → ℕ) → ByMarks (λ arrays. free_cell s arrays variable)
unfolding free_cell
free-alike s variable a b same w = rw (direct-alike a b same w)

-- The kinds of a cell in the order of the code.
module _ (arrays : ℕ → ℕ) (w : ℕ) (fits : w < 2 ^ 32) where
  pub direct-small : w ≤ integer_limit → true ≡ direct arrays w
  unfolding direct
  direct-small l = let e : is_scalar w ≡ true = small-scalar w fits (omega arith) ∙ simp (ne_eqb w (2 ^ 31) (λ z. omega (arith, z))) in simp e

  pub direct-array : w / 2 ^ 16 ≡ 0x200 → leb 1 (arrays (address w)) ≡ direct arrays w
  unfolding direct
  direct-array k =
      let e : is_scalar w ≡ false = large-scalar w fits (λ z. omega (arith, z)) (omega arith) ∙ ne_eqb (w / 2 ^ 8) (2 ^ 16) (λ z. omega (arith, z)) in
      simp (e, ne_eqb w undefined_word (λ z. omega (arith, z)), eq-eqb (w / 2 ^ 16) 0x200 k)

  pub direct-undefined : w ≡ undefined_word → true ≡ direct arrays w
  unfolding direct
  direct-undefined k = go (is_scalar w)
    where
      go : (b : Bool) → true ≡ cond b true (cond (eqb w undefined_word) true (is_array w && leb 1 (arrays (address w))))
      go true = refl
      go false = simp (eq-eqb w undefined_word k)

  pub direct-scalar : (w / 2 ^ 16 ≡ 0x200 → ⊥) → (w ≡ undefined_word → ⊥) → is_scalar w ≡ direct arrays w
  unfolding direct
  direct-scalar k u = go (is_scalar w)
    where
      go : (b : Bool) → b ≡ cond b true (cond (eqb w undefined_word) true (is_array w && leb 1 (arrays (address w))))
      go true = refl
      go false = simp (ne_eqb w undefined_word u, ne_eqb (w / 2 ^ 16) 0x200 k)
