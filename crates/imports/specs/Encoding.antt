-- How a file of imports is written: the one encoding of each number, and of records one after the other. Assumes nothing.
use Rattle.std.specs.Prelude.{ℕ, zero, suc, ◌+◌, ◌/◌, ◌%◌, ◌^◌, ◌≤◌, ◌≡◌, cond, List, [], ◌∷◌, ◌++◌, ltb, length, get_or}
use Rattle.descriptor.specs.Fields.{integer_limit}
use Rattle.segment.specs.Blocks.{product}
use Rattle.imports.specs.Records.{Record, load, run, Records, ends, entry, element_limit, number_limit}

-- At most so many groups, the low one first.
unfoldable pub encode_groups : ℕ → ℕ → List ℕ
encode_groups zero n = []
encode_groups (suc groups) n = cond (ltb n (2 ^ 7)) (n ∷ []) ((2 ^ 7 + n % 2 ^ 7) ∷ encode_groups groups (n / 2 ^ 7))

unfoldable pub encode_number : ℕ → List ℕ
encode_number n = encode_groups 4 n

abbrev pub encode_numbers : List ℕ → List ℕ
encode_numbers [] = []
encode_numbers (n ∷ ns) = encode_number n ++ encode_numbers ns

unfoldable pub encode_record : Record → List ℕ
encode_record (load global lengths ravel) = encode_numbers (0 ∷ global ∷ length lengths ∷ (lengths ++ ravel))
encode_record (run budget) = encode_numbers (1 ∷ budget ∷ [])

abbrev pub encode_all : List Record → List ℕ
encode_all [] = []
encode_all (r ∷ rs) = encode_record r ++ encode_all rs

-- What can be written.
abbrev pub AtMost : ℕ → List ℕ → Type 0
AtMost limit ns = (i : ℕ) → get_or ns i 0 ≤ limit

pub record Loadable (global : ℕ) (lengths ravel : List ℕ) : Type 0 where
  pub address : global ≤ number_limit
  pub rank : length lengths ≤ 15
  pub lengths_fit : AtMost number_limit lengths
  pub counted : length ravel ≡ product lengths
  pub few : length ravel ≤ element_limit
  pub integers : AtMost integer_limit ravel

abbrev pub Writable : Record → Type 0
Writable (load global lengths ravel) = Loadable global lengths ravel
Writable (run budget) = budget ≤ number_limit

abbrev pub AllWritable : List Record → Type 0
AllWritable [] = Unit {0}
AllWritable (r ∷ rs) = Writable r × AllWritable rs

-- The records with their places, each where the one before ends.
abbrev pub placed_from : ℕ → List Record → Records
placed_from place [] = ends
placed_from place (r ∷ rs) = entry place r (placed_from (place + length (encode_record r)) rs)
