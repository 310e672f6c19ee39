-- The families of first bytes: document 01's "First bytes". A reader must believe: the table is the document's. Assumes nothing.
use Rattle.std.specs.Prelude.{ℕ, Bool, cond, ◌&&◌, List, [], ◌∷◌, leb}
use Rattle.instruction.specs.declared.family.Family.{Family}
use Rattle.instruction.specs.declared.family.Family.TheVariants.{ShortLocal, ShortConst, GenScalar, MemRef, Etc, LongLocal, LongGlobal, Index, Unassigned}

-- The first bytes from low to high are of one family.
pub record Range : Type 0 where
  pub low : ℕ
  pub high : ℕ
  pub family : Family

abbrev pub holds : Range → ℕ → Bool
holds range b = leb range.low b && leb b range.high

abbrev pub first_bytes : List Range
first_bytes =
    record { low = 0x00; high = 0x3F; family = ShortLocal }
    ∷ record { low = 0x40; high = 0x5F; family = ShortConst }
    ∷ record { low = 0x60; high = 0x7F; family = GenScalar }
    ∷ record { low = 0x80; high = 0x9F; family = MemRef }
    ∷ record { low = 0xA0; high = 0xBF; family = Etc }
    ∷ record { low = 0xC0; high = 0xCF; family = LongLocal }
    ∷ record { low = 0xD0; high = 0xDF; family = LongGlobal }
    ∷ record { low = 0xE0; high = 0xEF; family = Index }
    ∷ record { low = 0xF0; high = 0xFF; family = Unassigned }
    ∷ []

-- The family of the range that holds b.
unfoldable pub family_in : List Range → ℕ → Family
family_in [] b = Unassigned
family_in (range ∷ ranges) b = cond (holds range b) range.family (family_in ranges b)

unfoldable pub family_of : ℕ → Family
family_of b = family_in first_bytes b

-- The document's order of the families, from 0; the bytes of no family come last.
abbrev pub order_of : Family → ℕ
order_of ShortLocal = 0
order_of ShortConst = 1
order_of GenScalar = 2
order_of MemRef = 3
order_of Etc = 4
order_of LongLocal = 5
order_of LongGlobal = 6
order_of Index = 7
order_of Unassigned = 8
