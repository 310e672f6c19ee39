-- What is read of a file keeps its limits: the lengths and elements of a load are words of 32 bits, whatever the file holds.
use Prim.Native.Nat.{ℕ, zero, suc, ◌-◌, ◌≤◌}
use mathlib.Core.Path.{◌≡◌, refl}
use mathlib.Core.Bool.{Bool, true, false, cond}
use mathlib.Core.List.{List, ◌∷◌}
use native.Mathlib.Omega.{arith}
use lib.Dec.{ltb, eqb}
use lib.ListN.{length}
use borrow.Author.Tests.{ltb-false}
use Rattle.descriptor.specs.Fields.{integer_limit}
use Rattle.segment.specs.Blocks.{product}
use Rattle.segment.specs.Lent.{Words}
use Rattle.std.proofs.Common.{Some, None}
use Rattle.imports.specs.Numbers as several
use Rattle.imports.specs.Numbers.{FoundNumber, Numbers, numbers, number_at, if_number, and_more, several_at, if_numbers}
use Rattle.imports.specs.Records.{Record, load, run, FoundRecord, found, bad, Records, ends, malformed, entry, element_limit, number_limit, imported_elements, imported_lengths, imported_load, imported_run, record_at, continued, records_up_to, records_from, records_of}
use Rattle.imports.specs.Encoding.{AtMost}

-- what holds of both ways holds of the one that is taken
by-test : {A : Type 0} (P : A → Type 0) (b : Bool) (one other : A) → (b ≡ true → P one) → (b ≡ false → P other) → P (cond b one other)
by-test P true one other h k = h refl
by-test P false one other h k = k refl

by_number : {A : Type 0} (P : A → Type 0) (n : FoundNumber) (none : A) (f : ℕ → ℕ → A) → P none → ((n next : ℕ) → P (f n next)) → P (if_number n none f)
by_number P (Some (n, next)) none f h k = k n next
by_number P None none f h k = h

-- ---- numbers

abbrev AllAtMost : ℕ → Numbers → Type 0
AllAtMost limit (numbers ns next) = AtMost limit ns
AllAtMost limit several.bad = Unit {0}

one_more : (limit n : ℕ) (ns : List ℕ) → n ≤ limit → AtMost limit ns → AtMost limit (n ∷ ns)
one_more limit n ns h k zero = h
one_more limit n ns h k (suc i) = k i

and-more : (limit n : ℕ) → n ≤ limit → (more : Numbers) → AllAtMost limit more → AllAtMost limit (and_more n more)
and-more limit n h (numbers ns next) k = one_more limit n ns h k
and-more limit n h several.bad k = tt

numbers-at-most : (limit count : ℕ) (file : List ℕ) (place : ℕ) → AllAtMost limit (several_at limit count file place)
unfolding several_at
numbers-at-most limit zero file place = λ i. omega arith
numbers-at-most limit (suc count) file place =
    by_number (AllAtMost limit) (number_at file place) several.bad _ tt
    (λ n next.
    by-test (AllAtMost limit) (ltb limit n) several.bad (and_more n (several_at limit count file next)) (λ e. tt)
    (λ e. and-more limit n (ltb-false limit n e) (several_at limit count file next) (numbers-at-most limit count file next)))

by-numbers : {A : Type 0} (P : A → Type 0) (limit : ℕ) (ns : Numbers) (none : A) (f : List ℕ → ℕ → A) → AllAtMost limit ns → P none
    → ((ns : List ℕ) (next : ℕ) → AtMost limit ns → P (f ns next)) → P (if_numbers ns none f)
by-numbers P limit (numbers ns next) none f h k l = l ns next h
by-numbers P limit several.bad none f h k l = k

-- ---- records

abbrev pub OfWords : Record → Type 0
OfWords (load global lengths ravel) = Words lengths × Words ravel
OfWords (run budget) = Unit {0}

abbrev FoundOfWords : FoundRecord → Type 0
FoundOfWords (found r next) = OfWords r
FoundOfWords bad = Unit {0}

elements-of-words : (file : List ℕ) (place global : ℕ) (lengths : List ℕ) → Words lengths → FoundOfWords (imported_elements file place global lengths)
unfolding imported_elements
elements-of-words file place global lengths h =
    by-test FoundOfWords (ltb element_limit (product lengths)) bad _ (λ e. tt)
    (λ e.
    by-numbers FoundOfWords integer_limit (several_at integer_limit (product lengths) file place) bad _
    (numbers-at-most integer_limit (product lengths) file place) tt (λ ravel next k. (h, λ i. omega (arith, k i))))

lengths-of-words : (file : List ℕ) (place global rank : ℕ) → FoundOfWords (imported_lengths file place global rank)
unfolding imported_lengths
lengths-of-words file place global rank =
    by-test FoundOfWords (ltb 15 rank) bad _ (λ e. tt)
    (λ e.
    by-numbers FoundOfWords number_limit (several_at number_limit rank file place) bad _ (numbers-at-most number_limit rank file place) tt
    (λ lengths next k. elements-of-words file next global lengths (λ i. omega (arith, k i))))

load-of-words : (file : List ℕ) (place : ℕ) → FoundOfWords (imported_load file place)
unfolding imported_load
load-of-words file place =
    by_number FoundOfWords (number_at file place) bad _ tt
    (λ global next. by_number FoundOfWords (number_at file next) bad _ tt (λ rank after. lengths-of-words file after global rank))

run-of-words : (file : List ℕ) (place : ℕ) → FoundOfWords (imported_run file place)
unfolding imported_run
run-of-words file place = by_number FoundOfWords (number_at file place) bad _ tt (λ budget next. tt)

record-of-words : (file : List ℕ) (place : ℕ) → FoundOfWords (record_at file place)
unfolding record_at
record-of-words file place =
    by_number FoundOfWords (number_at file place) bad _ tt
    (λ kind next.
    by-test FoundOfWords (eqb kind 0) (imported_load file next) _ (λ e. load-of-words file next)
    (λ e. by-test FoundOfWords (eqb kind 1) (imported_run file next) bad (λ e. run-of-words file next) (λ e. tt)))

-- ---- the file

abbrev pub AllOfWords : Records → Type 0
AllOfWords ends = Unit {0}
AllOfWords (malformed place) = Unit {0}
AllOfWords (entry place r rest) = OfWords r × AllOfWords rest

continued-of-words : (place : ℕ) (r : FoundRecord) (rest : ℕ → Records) → FoundOfWords r → ((next : ℕ) → AllOfWords (rest next)) → AllOfWords (continued place r rest)
continued-of-words place (found r next) rest h k = (h, k next)
continued-of-words place bad rest h k = tt

records-of-words : (left : ℕ) (file : List ℕ) (place : ℕ) → AllOfWords (records_up_to left file place)
unfolding records_up_to
records-of-words zero file place = tt
records-of-words (suc left) file place =
    by-test AllOfWords (ltb place (length file)) _ ends
    (λ e. continued-of-words place (record_at file place) (λ next. records_up_to left file next) (record-of-words file place) (λ next. records-of-words left file next)) (λ e. tt)

pub all-of-words : (file : List ℕ) → AllOfWords (records_of file)
unfolding records_from
all-of-words file = records-of-words (length file - 0) file 0
