-- Records that are read were written so: what a found record says of the numbers that it was found by.
use Prim.Native.Nat.{ℕ, zero, suc, ◌≤◌}
use native.Mathlib.Omega.{arith}
use mathlib.Core.Path.{◌≡◌, refl, sym, ap, ◌∙◌}
use mathlib.Core.Bool.{Bool, true, false, cond}
use mathlib.Core.List.{List, [], ◌∷◌, ◌++◌}
use lib.Dec.{ltb}
use lib.ListN.{length}
use borrow.Author.Tests.{ltb-false}
use Rattle.descriptor.specs.Fields.{integer_limit}
use Rattle.segment.specs.Blocks.{product}
use Rattle.segment.specs.Lent.{Bytes}
use Rattle.std.proofs.Common.{Some, None}
use Rattle.imports.specs.Numbers as several
use Rattle.imports.specs.Numbers.{FoundNumber, Numbers, numbers, number_at, if_number, several_at, if_numbers, and_more}
use Rattle.imports.specs.Records.{Record, load, run, FoundRecord, found, bad, number_limit, element_limit, imported_elements, imported_lengths, imported_load, imported_run, kind_at, record_at}
use Rattle.imports.specs.Encoding.{encode_number, encode_numbers, encode_record, AtMost, Loadable, Writable}
use Rattle.descriptor.proofs.Truth.{by-eq}
use Rattle.imports.proofs.Parsing.{loads, runs, of-no-kind}
use Rattle.imports.proofs.Standing.{Fills, fills-none, both-fill, fills-inside}
use Rattle.imports.proofs.Encodings.{number-one}
use Rattle.imports.proofs.ReadBack.{numbers-append}

-- ---- what was found on the way

never : {C : Type 0} {r : Record} {next : ℕ} → bad ≡ found r next → C
never e = let z : ◌≡◌ {A = ℕ} 0 1 = cc in absurd (omega arith)

never-several : {C : Type 0} {ns : List ℕ} {next : ℕ} → several.bad ≡ numbers ns next → C
never-several e = let z : ◌≡◌ {A = ℕ} 0 1 = cc in absurd (omega arith)

refused-not : (b : Bool) (rest : FoundRecord) (r : Record) (next : ℕ) → cond b bad rest ≡ found r next → (b ≡ false) × (rest ≡ found r next)
refused-not true rest r next e = never e
refused-not false rest r next e = (refl, e)

number-then : (what : FoundNumber) (f : ℕ → ℕ → FoundRecord) (r : Record) (next : ℕ) → if_number what bad f ≡ found r next
    → (n : ℕ) × (after : ℕ) × (what ≡ Some (n, after)) × (f n after ≡ found r next)
number-then (Some (n, after)) f r next e = (n, after, refl, e)
number-then None f r next e = never e

numbers-then : (what : Numbers) (f : List ℕ → ℕ → FoundRecord) (r : Record) (next : ℕ) → if_numbers what bad f ≡ found r next
    → (ns : List ℕ) × (after : ℕ) × (what ≡ numbers ns after) × (f ns after ≡ found r next)
numbers-then (numbers ns after) f r next e = (ns, after, refl, e)
numbers-then several.bad f r next e = never e

several-then : (what : FoundNumber) (f : ℕ → ℕ → Numbers) (ns : List ℕ) (next : ℕ) → if_number what several.bad f ≡ numbers ns next
    → (n : ℕ) × (after : ℕ) × (what ≡ Some (n, after)) × (f n after ≡ numbers ns next)
several-then (Some (n, after)) f ns next e = (n, after, refl, e)
several-then None f ns next e = never-several e

within-limit : (b : Bool) (n : ℕ) (rest : Numbers) (ns : List ℕ) (next : ℕ) → cond b several.bad (and_more n rest) ≡ numbers ns next
    → (b ≡ false) × (others : List ℕ) × (ns ≡ n ∷ others) × (rest ≡ numbers others next)
within-limit true n rest ns next e = never-several e
within-limit false n (numbers others after) ns next e = (refl, others, cc, cc)
within-limit false n several.bad ns next e = never-several e

module _ (file : List ℕ) (bytes : Bytes file) where
  -- ---- several numbers

  record NumbersOf (limit count place : ℕ) (ns : List ℕ) (next : ℕ) : Type 0 where
    pub counted : length ns ≡ count
    pub most : AtMost limit ns
    pub fills : Fills file place next (encode_numbers ns)

  at_most : (limit n : ℕ) (ns : List ℕ) → n ≤ limit → AtMost limit ns → AtMost limit (n ∷ ns)
  at_most limit n ns first rest zero = first
  at_most limit n ns first rest (suc i) = rest i

  one-of-several : (limit count place n after : ℕ) (others : List ℕ) (next : ℕ) → number_at file place ≡ Some (n, after) → n ≤ limit
      → NumbersOf limit count after others next → NumbersOf limit (suc count) place (n ∷ others) next
  one-of-several limit count place n after others next one within rest =
      record {
        counted = ap suc rest.counted;
        most = at_most limit n others within rest.most;
        fills = both-fill file (number-one file bytes place n after one).1 rest.fills;
      }

  numbers-one : (limit count place : ℕ) → place ≤ length file → (ns : List ℕ) (next : ℕ) → several_at limit count file place ≡ numbers ns next
      → NumbersOf limit count place ns next
  unfolding several_at
  numbers-one limit zero place inside ns next read =
      let none : [] ≡ ns = cc in
      let ended : place ≡ next = cc in
      rw (← none, ← ended) (record { counted = refl; most = λ i. omega arith; fills = fills-none inside })
  numbers-one limit (suc count) place inside ns next read =
      let one = several-then (number_at file place) (λ n next. cond (ltb limit n) several.bad (and_more n (several_at limit count file next))) ns next read in
      let more = within-limit (ltb limit one.0) one.0 (several_at limit count file one.1) ns next one.3 in
      rw more.2
      (one-of-several limit count place one.0 one.1 more.1 next one.2 (ltb-false limit one.0 more.0)
      (numbers-one limit count one.1 (fills-inside file (number-one file bytes place one.0 one.1 one.2).1) more.1 next more.3))

  -- ---- a load

  record ElementsOf (place global : ℕ) (lengths : List ℕ) (r : Record) (next : ℕ) : Type 0 where
    pub ravel : List ℕ
    pub same : r ≡ load global lengths ravel
    pub few : product lengths ≤ element_limit
    pub all : NumbersOf integer_limit (product lengths) place ravel next

  elements-one : (place global : ℕ) (lengths : List ℕ) → place ≤ length file → (r : Record) (next : ℕ) → imported_elements file place global lengths ≡ found r next
      → ElementsOf place global lengths r next
  unfolding imported_elements
  elements-one place global lengths inside r next read =
      let few = refused-not (ltb element_limit (product lengths)) _ r next read in
      let all = numbers-then (several_at integer_limit (product lengths) file place) (λ ravel next. found (load global lengths ravel) next) r next few.1 in
      let ended : all.1 ≡ next = cc all.3 in
      record {
        ravel = all.0;
        same = cc all.3;
        few = ltb-false element_limit (product lengths) few.0;
        all = numbers-one integer_limit (product lengths) place inside all.0 next (rw ended at all.2);
      }

  record LoadOf (place global rank : ℕ) (r : Record) (next : ℕ) : Type 0 where
    pub lengths : List ℕ
    pub ravel : List ℕ
    pub same : r ≡ load global lengths ravel
    pub ranked : length lengths ≡ rank
    pub loadable : global ≤ number_limit → Loadable global lengths ravel
    pub fills : Fills file place next (encode_numbers (lengths ++ ravel))

  lengths-one : (place global rank : ℕ) → place ≤ length file → (r : Record) (next : ℕ) → imported_lengths file place global rank ≡ found r next → LoadOf place global rank r next
  unfolding imported_lengths
  lengths-one place global rank inside r next read =
      let low = refused-not (ltb 15 rank) _ r next read in
      let some = numbers-then (several_at number_limit rank file place) (λ lengths next. imported_elements file next global lengths) r next low.1 in
      let lengths = numbers-one number_limit rank place inside some.0 some.1 some.2 in
      let elements = elements-one some.1 global some.0 (fills-inside file lengths.fills) r next some.3 in
      record {
        lengths = some.0;
        ravel = elements.ravel;
        same = elements.same;
        ranked = lengths.counted;
        loadable = λ address. record {
          address = address;
          rank = omega (arith, lengths.counted, ltb-false 15 rank low.0);
          lengths_fit = lengths.most;
          counted = elements.all.counted;
          few = omega (arith, elements.few, elements.all.counted);
          integers = elements.all.most;
        };
        fills = rw (numbers-append some.0 elements.ravel) (both-fill file lengths.fills elements.all.fills);
      }

  -- ---- a record, by its kind

  number-fills : (place n m next : ℕ) → number_at file place ≡ Some (n, next) → n ≡ m → Fills file place next (encode_number m)
  number-fills place n m next read same = rw same at (number-one file bytes place n next read).1

  load_of : (start place global second rank third next : ℕ) (r : Record) → Fills file start place (encode_number 0) → number_at file place ≡ Some (global, second)
      → number_at file second ≡ Some (rank, third) → LoadOf third global rank r next → Writable r × Fills file start next (encode_record r)
  unfolding encode_record
  load_of start place global second rank third next r loading address ranked rest =
      let number = number-one file bytes place global second address in
      rw rest.same (
        rest.loadable (omega (arith, number.0)),
        both-fill file loading (both-fill file number.1 (both-fill file (number-fills second rank (length rest.lengths) third ranked (sym rest.ranked)) rest.fills)),
      )

  load_one : (start place : ℕ) (r : Record) (next : ℕ) → imported_load file place ≡ found r next → Fills file start place (encode_number 0)
      → Writable r × Fills file start next (encode_record r)
  unfolding imported_load
  load_one start place r next read loading =
      let global = number-then (number_at file place) (λ global next. if_number (number_at file next) bad (λ rank after. imported_lengths file after global rank)) r next read in
      let rank = number-then (number_at file global.1) (λ rank after. imported_lengths file after global.0 rank) r next global.3 in
      let inside = fills-inside file (number-one file bytes global.1 rank.0 rank.1 rank.2).1 in
      load_of start place global.0 global.1 rank.0 rank.1 next r loading global.2 rank.2 (lengths-one rank.1 global.0 rank.0 inside r next rank.3)

  run_of : (start place budget next : ℕ) → number_at file place ≡ Some (budget, next) → Fills file start place (encode_number 1)
      → Writable (run budget) × Fills file start next (encode_record (run budget))
  unfolding encode_record
  run_of start place budget next read running =
      let number = number-one file bytes place budget next read in
      (omega (arith, number.0), both-fill file running (both-fill file number.1 (fills-none (fills-inside file number.1))))

  run-one : (start place : ℕ) (r : Record) (next : ℕ) → imported_run file place ≡ found r next → Fills file start place (encode_number 1)
      → Writable r × Fills file start next (encode_record r)
  unfolding imported_run
  run-one start place r next read running =
      let budget = number-then (number_at file place) (λ budget next. found (run budget) next) r next read in
      go budget.0 budget.1 (cc budget.3) (cc budget.3) (run_of start place budget.0 budget.1 budget.2 running)
    where
      go : (budget after : ℕ) → run budget ≡ r → after ≡ next → Writable (run budget) × Fills file start after (encode_record (run budget))
          → Writable r × Fills file start next (encode_record r)
      go budget after same ended one = rw (← same, ← ended) one

  pub record-one : (place : ℕ) (r : Record) (next : ℕ) → record_at file place ≡ found r next → Writable r × Fills file place next (encode_record r)
  unfolding record_at
  record-one place r next read =
      let kind = number-then (number_at file place) (λ kind next. kind_at file next kind) r next read in
      by-eq kind.0 0
      (λ zero. load_one place kind.1 r next (loads file place kind.0 kind.1 kind.2 zero ∙ read) (number-fills place kind.0 0 kind.1 kind.2 zero))
      (λ some. by-eq kind.0 1
      (λ one. run-one place kind.1 r next (runs file place kind.0 kind.1 kind.2 some one ∙ read) (number-fills place kind.0 1 kind.1 kind.2 one))
      (λ others. never (of-no-kind file place kind.0 kind.1 kind.2 some others ∙ read)))
