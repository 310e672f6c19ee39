-- Where numbers and records end: past the place where they begin.
use Prim.Native.Nat.{ℕ, zero, suc, ◌+◌, ◌-◌, ◌^◌, ◌<◌, ◌≤◌}
use native.Mathlib.Nat.{le_refl}
use native.Mathlib.Omega.{arith}
use mathlib.Core.Path.{◌≡◌, subst}
use mathlib.Core.Bool.{Bool, true, false, cond}
use mathlib.Core.List.{List}
use lib.Dec.{ltb, eqb}
use lib.ListN.{get_or, length}
use Rattle.descriptor.specs.Fields.{integer_limit}
use Rattle.segment.specs.Blocks.{product}
use Rattle.std.proofs.Common.{Some, None}
use Rattle.imports.specs.Numbers as several
use Rattle.imports.specs.Numbers.{FoundNumber, Numbers, numbers, above, groups_at, number_at, if_number, several_at, if_numbers, and_more}
use Rattle.imports.specs.Records.{Record, load, run, FoundRecord, found, bad, number_limit, element_limit, imported_elements, imported_lengths, imported_load, imported_run, record_at}

-- what is found, if anything, ends at `least` or later
abbrev NumberFrom : ℕ → FoundNumber → Type 0
NumberFrom least (Some (n, next)) = least ≤ next
NumberFrom least None = Unit {0}

abbrev NumbersFrom : ℕ → Numbers → Type 0
NumbersFrom least (numbers ns next) = least ≤ next
NumbersFrom least several.bad = Unit {0}

abbrev RecordFrom : ℕ → FoundRecord → Type 0
RecordFrom least (found r next) = least ≤ next
RecordFrom least bad = Unit {0}

-- of each way of a test, and of what is done with what was found
either : {A : Type 0} (P : A → Type 0) (b : Bool) {x y : A} → P x → P y → P (cond b x y)
either P true p q = p
either P false p q = q

with_number : {A : Type 0} (P : A → Type 0) (least : ℕ) (n : FoundNumber) (none : A) (f : ℕ → ℕ → A)
    → NumberFrom least n → P none → ((v next : ℕ) → least ≤ next → P (f v next)) → P (if_number n none f)
with_number P least (Some (v, next)) none f past p q = q v next past
with_number P least None none f past p q = p

with-numbers : {A : Type 0} (P : A → Type 0) (least : ℕ) (ns : Numbers) (none : A) (f : List ℕ → ℕ → A)
    → NumbersFrom least ns → P none → ((vs : List ℕ) (next : ℕ) → least ≤ next → P (f vs next)) → P (if_numbers ns none f)
with-numbers P least (numbers vs next) none f past p q = q vs next past
with-numbers P least several.bad none f past p q = p

-- ---- numbers

above_from : (least low : ℕ) (high : FoundNumber) → NumberFrom least high → NumberFrom least (above low high)
above_from least low (Some (n, next)) past = either (NumberFrom least) (eqb n 0) tt past
above_from least low None past = tt

groups-from : (groups : ℕ) (file : List ℕ) (place least : ℕ) → least ≤ place + 1 → NumberFrom least (groups_at groups file place)
unfolding groups_at
groups-from zero file place least past = tt
groups-from (suc groups) file place least past =
    either (NumberFrom least) (ltb place (length file))
    (either (NumberFrom least) (ltb (get_or file place 0) (2 ^ 7)) past
    (above_from least (get_or file place 0 - 2 ^ 7) (groups_at groups file (place + 1)) (groups-from groups file (place + 1) least (omega arith))))
    tt

number-from : (file : List ℕ) (place : ℕ) → NumberFrom (place + 1) (number_at file place)
unfolding number_at
number-from file place = groups-from 4 file place (place + 1) (le_refl (place + 1))

more-from : (least n : ℕ) (ns : Numbers) → NumbersFrom least ns → NumbersFrom least (and_more n ns)
more-from least n (numbers ns next) past = past
more-from least n several.bad past = tt

numbers-from : (limit count : ℕ) (file : List ℕ) (place least : ℕ) → least ≤ place → NumbersFrom least (several_at limit count file place)
unfolding several_at
numbers-from limit zero file place least past = past
numbers-from limit (suc count) file place least past =
    with_number (NumbersFrom least) (place + 1) (number_at file place) several.bad _ (number-from file place) tt
    (λ n next more. either (NumbersFrom least) (ltb limit n) tt (more-from least n (several_at limit count file next) (numbers-from limit count file next least (omega arith))))

-- ---- records

module _ (file : List ℕ) (least : ℕ) where
  elements-from : (place global : ℕ) (lengths : List ℕ) → least ≤ place → RecordFrom least (imported_elements file place global lengths)
  unfolding imported_elements
  elements-from place global lengths past =
      either (RecordFrom least) (ltb element_limit (product lengths)) tt
      (with-numbers (RecordFrom least) least (several_at integer_limit (product lengths) file place) bad (λ ravel next. found (load global lengths ravel) next)
      (numbers-from integer_limit (product lengths) file place least past) tt (λ ravel next more. more))

  lengths-from : (place global rank : ℕ) → least ≤ place → RecordFrom least (imported_lengths file place global rank)
  unfolding imported_lengths
  lengths-from place global rank past =
      either (RecordFrom least) (ltb 15 rank) tt
      (with-numbers (RecordFrom least) least (several_at number_limit rank file place) bad (λ lengths next. imported_elements file next global lengths)
      (numbers-from number_limit rank file place least past) tt (λ lengths next more. elements-from next global lengths more))

  load_from : (place : ℕ) → least ≤ place → RecordFrom least (imported_load file place)
  unfolding imported_load
  load_from place past =
      with_number (RecordFrom least) (place + 1) (number_at file place) bad _ (number-from file place) tt
      (λ global next more. with_number (RecordFrom least) (next + 1) (number_at file next) bad _ (number-from file next) tt
      (λ rank after more'. lengths-from after global rank (omega arith)))

  run-from : (place : ℕ) → least ≤ place → RecordFrom least (imported_run file place)
  unfolding imported_run
  run-from place past =
      with_number (RecordFrom least) (place + 1) (number_at file place) bad (λ budget next. found (run budget) next) (number-from file place) tt (λ budget next more. omega arith)

record-from : (file : List ℕ) (place : ℕ) → RecordFrom (place + 1) (record_at file place)
unfolding record_at
record-from file place =
    with_number (RecordFrom (place + 1)) (place + 1) (number_at file place) bad _ (number-from file place) tt
    (λ kind next more. either (RecordFrom (place + 1)) (eqb kind 0) (load_from file (place + 1) next more)
    (either (RecordFrom (place + 1)) (eqb kind 1) (run-from file (place + 1) next more) tt))

pub record-passes : (file : List ℕ) (place : ℕ) (r : Record) (next : ℕ) → record_at file place ≡ found r next → place < next
record-passes file place r next e =
    let past : RecordFrom (place + 1) (found r next) = subst (RecordFrom (place + 1)) e (record-from file place) in
    omega arith
