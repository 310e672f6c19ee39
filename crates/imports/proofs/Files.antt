-- The records of a file from a place on: none at its end, else what stands at the place and then the records after it.
use Prim.Native.Nat.{ℕ, zero, suc, ◌+◌, ◌-◌, ◌<◌, ◌≤◌}
use native.Mathlib.Omega.{arith}
use mathlib.Core.Path.{◌≡◌, refl, sym, ap, ◌∙◌}
use mathlib.Core.List.{List}
use lib.ListN.{length}
use borrow.Author.Tests.{lt-ltb, le-ltb}
use native.Mathlib.Decide.{dec_lt}
use Rattle.imports.specs.Records.{Record, FoundRecord, found, bad, ends, malformed, entry, record_at, records_up_to, records_from}
use Rattle.imports.proofs.Ends.{record-passes}

module _ (file : List ℕ) where
  at-end : (left place : ℕ) → length file ≤ place → records_up_to left file place ≡ ends
  unfolding records_up_to
  at-end zero place past = refl
  at-end (suc left) place past = simp (le-ltb place (length file) past)

  module _ (left place : ℕ) (inside : place < length file) where
    stops : record_at file place ≡ bad → records_up_to (suc left) file place ≡ malformed place
    unfolding records_up_to
    stops none = simp (lt-ltb place (length file) inside, none)

    goes_on : (r : Record) (next : ℕ) → record_at file place ≡ found r next → records_up_to (suc left) file place ≡ entry place r (records_up_to left file next)
    unfolding records_up_to
    goes_on r next some = simp (lt-ltb place (length file) inside, some)

  -- more records than bytes are not asked for
  alike : (more less place : ℕ) → place < length file → ((next : ℕ) → place < next → records_up_to more file next ≡ records_up_to less file next)
      → (what : FoundRecord) → record_at file place ≡ what → records_up_to (suc more) file place ≡ records_up_to (suc less) file place
  alike more less place inside rest (found r next) some =
      goes_on more place inside r next some
      ∙ ap (entry place r) (rest next (record-passes file place r next some))
      ∙ sym (goes_on less place inside r next some)
  alike more less place inside rest bad none = stops more place inside none ∙ sym (stops less place inside none)

  enough : (more less place : ℕ) → length file ≤ place + more → length file ≤ place + less → records_up_to more file place ≡ records_up_to less file place
  enough zero less place m l = at-end zero place (omega arith) ∙ sym (at-end less place (omega arith))
  enough (suc more) zero place m l = at-end (suc more) place (omega arith) ∙ sym (at-end zero place (omega arith))
  enough (suc more) (suc less) place m l = elim (dec_lt place (length file)) [
    | yes inside ↦ alike more less place inside (λ next past. enough more less next (omega arith) (omega arith)) (record_at file place) refl
    | no past ↦ at-end (suc more) place (omega arith) ∙ sym (at-end (suc less) place (omega arith))
  ]

  module _ (place : ℕ) where
    pub no_more : length file ≤ place → records_from file place ≡ ends
    unfolding records_from
    no_more past = at-end (length file - place) place past

    module _ (inside : place < length file) where
      pub no_record : record_at file place ≡ bad → records_from file place ≡ malformed place
      unfolding records_from
      no_record none = enough (length file - place) (suc (length file)) place (omega arith) (omega arith) ∙ stops (length file) place inside none

      pub one-record : (r : Record) (next : ℕ) → record_at file place ≡ found r next → records_from file place ≡ entry place r (records_from file next)
      unfolding records_from
      one-record r next some =
          enough (length file - place) (suc (length file)) place (omega arith) (omega arith)
          ∙ goes_on (length file) place inside r next some
          ∙ ap (entry place r) (enough (length file) (length file - next) next (omega arith) (omega arith))
