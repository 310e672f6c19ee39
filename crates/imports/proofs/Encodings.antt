-- Numbers and their one encoding, by the groups that are left.
use Prim.Native.Nat.{ℕ, zero, suc, ◌+◌, ◌*◌, ◌-◌, ◌/◌, ◌%◌, ◌^◌, ◌<◌, ◌≤◌}
use native.Mathlib.Omega.{arith}
use mathlib.Core.Path.{◌≡◌, refl, sym, ap, ◌∙◌}
use mathlib.Core.List.{List, [], ◌∷◌}
use lib.ListN.{length, get_or}
use borrow.Author.Tests.{lt-ltb, le-ltb}
use Rattle.segment.specs.Lent.{Bytes}
use Rattle.std.proofs.Common.{Some, None}
use Rattle.imports.specs.Numbers.{FoundNumber, above, groups_at, number_at}
use Rattle.imports.specs.Encoding.{encode_groups, encode_number}
use Rattle.descriptor.proofs.Truth.{by_le, by-eq}
use Rattle.imports.proofs.Numbers.{same_value, same_next, cut, last, more, needless, weighed}
use Rattle.imports.proofs.Standing.{Fills, fills-none, fills_one, first-inside, first_byte, next-bytes}

-- so many groups write the numbers below it
abbrev limit_of : ℕ → ℕ
limit_of zero = 1
limit_of (suc groups) = 2 ^ 7 * limit_of groups

some : (groups : ℕ) → 1 ≤ limit_of groups
some zero = omega arith
some (suc groups) = omega (arith, some groups)

-- ---- the encoder

small : (groups n : ℕ) → n < 2 ^ 7 → encode_groups (suc groups) n ≡ n ∷ []
unfolding encode_groups
small groups n low = simp (lt-ltb n (2 ^ 7) low)

large : (groups n : ℕ) → 2 ^ 7 ≤ n → encode_groups (suc groups) n ≡ (2 ^ 7 + n % 2 ^ 7) ∷ encode_groups groups (n / 2 ^ 7)
unfolding encode_groups
large groups n high = simp (le-ltb n (2 ^ 7) high)

-- ---- what was written is read back

same_number : {m n next : ℕ} → m ≡ n → ◌≡◌ {A = FoundNumber} (Some (m, next)) (Some (n, next))
same_number {next = next} e = ap (λ (v : ℕ). let found : FoundNumber = Some (v, next) in found) e

module _ (file : List ℕ) where
  small-back : (groups place n next : ℕ) → n < 2 ^ 7 → Fills file place next (n ∷ []) → groups_at (suc groups) file place ≡ Some (n, next)
  small-back groups place n next low fills =
      rw fills.end (last groups file place (first-inside fills) n (first_byte fills) low)

  large-back : (groups place n next : ℕ) (rest : List ℕ) → 2 ^ 7 ≤ n → Fills file place next ((2 ^ 7 + n % 2 ^ 7) ∷ rest)
      → groups_at groups file (place + 1) ≡ Some (n / 2 ^ 7, next) → groups_at (suc groups) file place ≡ Some (n, next)
  large-back groups place n next rest high fills ih =
      more groups file place (first-inside fills) (2 ^ 7 + n % 2 ^ 7) (first_byte fills) (omega arith)
      ∙ ap (above (2 ^ 7 + n % 2 ^ 7 - 2 ^ 7)) ih
      ∙ weighed (2 ^ 7 + n % 2 ^ 7 - 2 ^ 7) (n / 2 ^ 7) next (λ none. omega arith)
      ∙ same_number (omega arith)

  groups-back : (groups place n next : ℕ) → n < limit_of (suc groups) → Fills file place next (encode_groups (suc groups) n)
      → groups_at (suc groups) file place ≡ Some (n, next)
  groups-back zero place n next bound fills = small-back zero place n next (omega arith) (rw (small zero n (omega arith)) at fills)
  groups-back (suc groups) place n next bound fills =
      by_le (2 ^ 7) n
      (λ high. let written = rw (large (suc groups) n high) at fills in
      large-back (suc groups) place n next (encode_groups (suc groups) (n / 2 ^ 7)) high written
      (groups-back groups (place + 1) (n / 2 ^ 7) next (omega arith) (next-bytes written)))
      (λ low. small-back (suc groups) place n next low (rw (small (suc groups) n low) at fills))

  pub number-back : (place n next : ℕ) → n < 2 ^ 28 → Fills file place next (encode_number n) → number_at file place ≡ Some (n, next)
  unfolding number_at encode_number
  number-back place n next bound fills = groups-back 3 place n next bound fills

-- ---- what is read was written so

never : {C : Type 0} {n next : ℕ} → ◌≡◌ {A = FoundNumber} None (Some (n, next)) → C
never e = let z : ◌≡◌ {A = ℕ} 0 1 = cc in absurd (omega arith)

above-number : (low : ℕ) (rest : FoundNumber) (n next : ℕ) → above low rest ≡ Some (n, next)
    → (high : ℕ) × (rest ≡ Some (high, next)) × (high ≡ 0 → ⊥) × (n ≡ low + 2 ^ 7 * high)
above-number low (Some (high, after)) n next e =
    by-eq high 0
    (λ none. never (sym (needless low high after none) ∙ e))
    (λ some. let told = sym (weighed low high after some) ∙ e in
    (high, ap (λ (k : ℕ). let found : FoundNumber = Some (high, k) in found) (same_next told), some, sym (same_value told)))
above-number low None n next e = never e

module _ (file : List ℕ) (bytes : Bytes file) where
  module _ (groups place n next : ℕ) (read : groups_at (suc groups) file place ≡ Some (n, next)) (inside : place < length file) where
    one_byte : get_or file place 0 < 2 ^ 7 → (n < limit_of (suc groups)) × Fills file place next (encode_groups (suc groups) n)
    one_byte low =
        let told = sym (last groups file place inside (get_or file place 0) refl low) ∙ read in
        let same : get_or file place 0 ≡ n = same_value told in
        let ended : place + 1 ≡ next = same_next told in
        rw (small groups n (omega arith), ← ended) (omega (arith, some groups), fills_one inside same (fills-none (omega arith)))

    more_bytes : 2 ^ 7 ≤ get_or file place 0
        → ((high : ℕ) → groups_at groups file (place + 1) ≡ Some (high, next) → (high < limit_of groups) × Fills file (place + 1) next (encode_groups groups high))
        → (n < limit_of (suc groups)) × Fills file place next (encode_groups (suc groups) n)
    more_bytes high rest = go (above-number _ _ n next (sym (more groups file place inside (get_or file place 0) refl high) ∙ read))
      where
        go : (v : ℕ) × (groups_at groups file (place + 1) ≡ Some (v, next)) × (v ≡ 0 → ⊥) × (n ≡ get_or file place 0 - 2 ^ 7 + 2 ^ 7 * v)
            → (n < limit_of (suc groups)) × Fills file place next (encode_groups (suc groups) n)
        go (v, found, some, value) =
            let byte = bytes place in
            let above : n / 2 ^ 7 ≡ v = omega arith in
            let low : get_or file place 0 ≡ 2 ^ 7 + n % 2 ^ 7 = omega arith in
            let large-n : 2 ^ 7 ≤ n = omega arith in
            rw (large groups n large-n, above) (omega (arith, (rest v found).0), fills_one inside low (rest v found).1)

  groups-one : (groups place n next : ℕ) → groups_at groups file place ≡ Some (n, next) → (n < limit_of groups) × Fills file place next (encode_groups groups n)
  unfolding groups_at
  groups-one zero place n next read = never read
  groups-one (suc groups) place n next read =
      by_le (length file) place
      (λ past. never (sym (cut groups file place past) ∙ read))
      (λ inside. by_le (2 ^ 7) (get_or file place 0)
      (λ high. more_bytes groups place n next read inside high (λ v found. groups-one groups (place + 1) v next found))
      (λ low. one_byte groups place n next read inside low))

  pub number-one : (place n next : ℕ) → number_at file place ≡ Some (n, next) → (n < 2 ^ 28) × Fills file place next (encode_number n)
  unfolding number_at encode_number
  number-one place n next read = groups-one 4 place n next read
