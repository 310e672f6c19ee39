-- What the test of a lent table has seen of it.
use Prim.Native.Nat.{ℕ, zero, suc, ◌+◌, ◌<◌, ◌≤◌}
use native.Mathlib.Numerals.{add-one}
use native.Mathlib.Omega.{arith}
use mathlib.Core.Path.{◌≡◌, refl, sym, ◌∙◌}
use mathlib.Core.Bool.{Bool, true, false, ◌||◌}
use mathlib.Core.List.{List, [], ◌∷◌}
use lib.Dec.{eqb}
use lib.ListN.{length, get_or, set, replicate, drop, drop_of_length-le, length-set}
use lib.Seq.{drop-cons, get_or-set_same, get_or-set_other}
use borrow.Author.Tests.{eq-eqb, ne_eqb, le-leb, lt-leb, eqb-true, eqb-false}
use Rattle.operator.specs.Lent.{stands, each_once, table_test}

-- The first i bytes are places that differ, and `seen` marks them.
pub record SoFar (table : List ℕ) (seen : List Bool) (i : ℕ) : Type 0 where
  pub before : List ℕ
  pub long : length seen ≡ 16
  pub marked : (place : ℕ) → get_or seen place false ≡ stands place before
  pub rest : each_once before (drop i table) ≡ each_once [] table

unmarked : (n place : ℕ) → get_or (replicate n false) place false ≡ false
unmarked zero place = refl
unmarked (suc n) zero = refl
unmarked (suc n) (suc place) = unmarked n place

pub start : (table : List ℕ) → SoFar table (replicate 16 false) 0
start table = record { before = []; long = refl; marked = unmarked 16; rest = refl }

module _ {table : List ℕ} {seen : List Bool} {i : ℕ} (s : SoFar table seen i) where
  module _ (h : i < length table) where
    abbrev byte : ℕ
    byte = get_or table i 0

    next : each_once s.before (byte ∷ drop (suc i) table) ≡ each_once [] table
    next = rw (drop-cons table i 0 h) at s.rest

    pub no_place : 15 < byte → false ≡ each_once [] table
    no_place large = rw (lt-leb byte 15 large) at next

    module _ (small : byte ≤ 15) where
      pub repeated : get_or seen byte false ≡ true → false ≡ each_once [] table
      repeated e = rw (le-leb byte 15 small, sym (s.marked byte), e) at next

      pub on : get_or seen byte false ≡ false → SoFar table (set seen byte true) (i + 1)
      on e = record {
        before = byte ∷ s.before;
        long = length-set seen byte true ∙ s.long;
        marked = marks;
        rest = rw (add-one i) (rw (le-leb byte 15 small, sym (s.marked byte), e) at next);
      }
        where
          by_place : (place : ℕ) (same : Bool) → eqb place byte ≡ same → get_or (set seen byte true) place false ≡ (same || stands place s.before)
          by_place place true same = rw (eqb-true place byte same) (get_or-set_same seen byte true false (omega (arith, s.long)))
          by_place place false same = get_or-set_other seen byte place true false (eqb-false place byte same) ∙ s.marked place

          marks : (place : ℕ) → get_or (set seen byte true) place false ≡ stands place (byte ∷ s.before)
          marks place = by_place place (eqb place byte) refl

  pub all : length table ≤ i → true ≡ each_once [] table
  all h = rw (drop_of_length-le table h) at s.rest

pub other_length : (table : List ℕ) → (length table ≡ 16 → ⊥) → false ≡ table_test table
unfolding table_test
other_length table h = simp (ne_eqb (length table) 16 h)

pub sixteen-bytes : (table : List ℕ) (b : Bool) → length table ≡ 16 → b ≡ each_once [] table → b ≡ table_test table
unfolding table_test
sixteen-bytes table b h e = simp (eq-eqb (length table) 16 h) e
