-- A record that the code reads: its elements by their count up to a bound, and that it has a byte or more.
use Prim.Native.Nat.{ℕ, ◌<◌, ◌≤◌, min}
use native.Mathlib.Omega.{arith}
use mathlib.Core.Path.{◌≡◌, sym, ap, ◌∙◌}
use mathlib.Core.List.{List, ◌++◌}
use lib.ListN.{length, take}
use Rattle.std.proofs.lemmas.List.{take-append-le}
use borrow.Author.Tests.{lt-ltb, le-ltb, eq-eqb, ne_eqb}
use Rattle.descriptor.specs.Fields.{integer_limit}
use Rattle.segment.specs.Blocks.{product}
use Rattle.std.proofs.Common.{Option, Some, None}
use Rattle.imports.specs.declared.parse.Record.{Record}
use Rattle.imports.specs.declared.parse.Record.TheVariants.{Load, Run}
use Rattle.imports.specs.Numbers as several
use Rattle.imports.specs.Numbers.{numbers, number_at, several_at}
use Rattle.imports.specs.Records.{load, found, bad, element_limit, imported_elements, imported_load, imported_run, record_at}
use Rattle.imports.specs.Parsing.{read_numbers, parsed, Advances}
use Rattle.imports.proofs.Ends.{record-passes}

-- ---- numbers that fill the first part of a slice

module _ (limit n : ℕ) (file : List ℕ) (place : ℕ) (part new rest : List ℕ) (long : length part ≡ n) (as_long : length new ≡ length part) where
  same_part : take n (new ++ rest) ≡ take n new
  same_part = take-append-le n new rest (omega arith)

  pub part-read : (found : Option ℕ) → read_numbers found (length part) new ≡ several_at limit (length part) file place
      → read_numbers found n (new ++ rest) ≡ several_at limit n file place
  part-read (Some next) told = ap (λ (ns : List ℕ). numbers ns next) same_part ∙ rw long at told
  part-read None told = rw long at told

-- ---- the elements of a load

module _ (file : List ℕ) (place global : ℕ) (lengths : List ℕ) (count : ℕ) (counted : count ≡ min (product lengths) 65536) where
  pub too_many : element_limit < count → bad ≡ imported_elements file place global lengths
  unfolding imported_elements
  too_many many = simp (lt-ltb element_limit (product lengths) (omega arith))

  module _ (few : count ≤ element_limit) where
    all : product lengths ≡ count
    all = omega arith

    pub no-elements : several.bad ≡ several_at integer_limit count file place → bad ≡ imported_elements file place global lengths
    unfolding imported_elements
    no-elements none = simp (all, le-ltb element_limit count few, sym none)

    pub with-elements : (ravel : List ℕ) (next : ℕ) → numbers ravel next ≡ several_at integer_limit count file place
        → found (load global lengths ravel) next ≡ imported_elements file place global lengths
    unfolding imported_elements
    with-elements ravel next some = simp (all, le-ltb element_limit count few, sym some)

-- ---- by its kind

module _ (file : List ℕ) (place kind next : ℕ) (first : number_at file place ≡ Some (kind, next)) where
  pub loads : kind ≡ 0 → imported_load file next ≡ record_at file place
  unfolding record_at
  loads zero = simp (first, eq-eqb kind 0 zero)

  pub runs : (kind ≡ 0 → ⊥) → kind ≡ 1 → imported_run file next ≡ record_at file place
  unfolding record_at
  runs some one = simp (first, ne_eqb kind 0 some, eq-eqb kind 1 one)

  pub of-no-kind : (kind ≡ 0 → ⊥) → (kind ≡ 1 → ⊥) → bad ≡ record_at file place
  unfolding record_at
  of-no-kind some others = simp (first, ne_eqb kind 0 some, ne_eqb kind 1 others)

pub passes : (r : Option Record) (lengths ravel file : List ℕ) (place : ℕ) → parsed r lengths ravel ≡ record_at file place → Advances place r
passes (Some (Load global rank count next)) lengths ravel file place e = record-passes file place _ next (sym e)
passes (Some (Run budget next)) lengths ravel file place e = record-passes file place _ next (sym e)
passes None lengths ravel file place e = tt
