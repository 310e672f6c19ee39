-- Numbers written one after the other: where their bytes stand, and that no number takes more than four.
use Prim.Native.Nat.{ℕ, zero, suc, ◌+◌, ◌*◌, ◌/◌, ◌%◌, ◌≤◌, ◌<◌}
use native.Mathlib.Numerals.{add-one}
use native.Mathlib.Omega.{arith}
use mathlib.Core.Path.{◌≡◌, refl, sym, ap, ◌∙◌}
use mathlib.Core.Bool.{Bool, true, false, cond}
use mathlib.Core.List.{List, [], ◌∷◌, ◌++◌}
use lib.ListN.{length, get_or, take, drop, length-append, drop_of_length-le}
use lib.Dec.{ltb}
use lib.Seq.{sets, sets-eq, length-sets, drop-cons, take_at}
use Rattle.imports.specs.Records as file
use Rattle.segment.proofs.Copies.{sets-append}
use Rattle.imports.proofs.ReadBack.{numbers-append}
use Rattle.imports.specs.Encoding.{encode_groups, encode_number, encode_numbers, encode_record}

-- ---- how many bytes

last-or-more : (b : Bool) (n low groups : ℕ) (rest : List ℕ) → length rest ≤ groups → length (cond b (n ∷ []) (low ∷ rest)) ≤ suc groups
last-or-more true n low groups rest h = omega arith
last-or-more false n low groups rest h = omega (arith, h)

groups-short : (groups n : ℕ) → length (encode_groups groups n) ≤ groups
unfolding encode_groups
groups-short zero n = omega arith
groups-short (suc groups) n = last-or-more (ltb n 128) n (128 + n % 128) groups (encode_groups groups (n / 128)) (groups-short groups (n / 128))

pub number_short : (n : ℕ) → length (encode_number n) ≤ 4
unfolding encode_number
number_short n = groups-short 4 n

pub numbers-short : (ns : List ℕ) → length (encode_numbers ns) ≤ 4 * length ns
numbers-short [] = omega arith
numbers-short (n ∷ ns) = rw (length-append (encode_number n) (encode_numbers ns)) (omega (arith, number_short n, numbers-short ns))

-- ---- one after the other

-- bytes stand in a buffer from a place on, and another place is the one after them
pub record Wrote (before : List ℕ) (at : ℕ) (bytes after : List ℕ) (to : ℕ) : Type 0 where
  pub stands : after ≡ sets before at bytes
  pub place : to ≡ at + length bytes

pub wrote : {before : List ℕ} {at : ℕ} {bytes after : List ℕ} {to : ℕ} → after ≡ sets before at bytes → to ≡ at + length bytes
    → Wrote before at bytes after to
wrote s p = record { stands = s; place = p }

module _ {before : List ℕ} {at : ℕ} {a after : List ℕ} {to : ℕ} (w : Wrote before at a after to) where
  pub then : {b later : List ℕ} {end : ℕ} → Wrote after to b later end → Wrote before at (a ++ b) later end
  then {b} v = record {
    stands = v.stands ∙ rw (w.stands, w.place) (sym (sets-append a b before at (at + length a) refl));
    place = rw (length-append a b) (omega (arith, v.place, w.place));
  }

-- bytes that were written from the first place on stand in front
module _ (before bytes all : List ℕ) (same : bytes ≡ all) {after : List ℕ} {to : ℕ} (w : Wrote before 0 bytes after to) where
  pub in-front : length bytes ≤ length before → (take to after ≡ all) × (to ≤ length before)
  in-front h =
      let parts : sets before 0 bytes ≡ bytes ++ drop (0 + length bytes) before = sets-eq bytes before 0 (omega arith) in (
        rw (w.stands, parts) (take_at bytes (drop (0 + length bytes) before) to (omega (arith, w.place))) ∙ same,
        omega (arith, w.place),
      )

-- ---- a loop over numbers

-- those from index i on are still to be written
pub record Going (numbers before : List ℕ) (at : ℕ) (out : List ℕ) (to i : ℕ) : Type 0 where
  pub bytes : sets out to (encode_numbers (drop i numbers)) ≡ sets before at (encode_numbers numbers)
  pub place : to + length (encode_numbers (drop i numbers)) ≡ at + length (encode_numbers numbers)
  pub as_long : length out ≡ length before
  pub room : to ≤ at + 4 * i

module _ {numbers before : List ℕ} {at : ℕ} where
  pub going : Going numbers before at before at 0
  going = record { bytes = refl; place = refl; as_long = refl; room = omega arith }

  module _ {out : List ℕ} {to i : ℕ} (g : Going numbers before at out to i) where
    pub going_on : (later : List ℕ) (end : ℕ) → i < length numbers → later ≡ sets out to (encode_number (get_or numbers i 0))
        → end ≡ to + length (encode_number (get_or numbers i 0)) → Going numbers before at later end (i + 1)
    going_on later end h s p =
        let n = get_or numbers i 0 in
        let rest = encode_numbers (drop (i + 1) numbers) in
        let next : drop i numbers ≡ n ∷ drop (i + 1) numbers = rw (add-one i) (drop-cons numbers i 0 h) in
        let bytes-so : sets out to (encode_number n ++ rest) ≡ sets before at (encode_numbers numbers) = rw next at g.bytes in
        let place-so : to + length (encode_number n ++ rest) ≡ at + length (encode_numbers numbers) = rw next at g.place in
        record {
          bytes = rw (s, p) (sym (sets-append (encode_number n) rest out to (to + length (encode_number n)) refl) ∙ bytes-so);
          place = omega (arith, p, place-so, length-append (encode_number n) rest);
          as_long = rw s (length-sets out to (encode_number n)) ∙ g.as_long;
          room = omega (arith, p, number_short n, g.room);
        }

    pub going_done : length numbers ≤ i → Wrote before at (encode_numbers numbers) out to
    going_done h =
        let none : drop i numbers ≡ [] = drop_of_length-le numbers h in
        let last : out ≡ sets before at (encode_numbers numbers) = rw none at g.bytes in
        let place-so = rw none at g.place in
        record { stands = last; place = omega (arith, place-so) }

-- ---- records

load-bytes : (global : ℕ) (lengths ravel : List ℕ)
    → encode_numbers (0 ∷ global ∷ length lengths ∷ []) ++ encode_numbers lengths ++ encode_numbers ravel ≡ encode_record (file.load global lengths ravel)
unfolding encode_record
load-bytes global lengths ravel =
    let head : List ℕ = 0 ∷ global ∷ length lengths ∷ [] in
    ap (λ (l : List ℕ). l ++ encode_numbers ravel) (sym (numbers-append head lengths)) ∙ sym (numbers-append (head ++ lengths) ravel)

pub load-front : (global : ℕ) (lengths ravel before : List ℕ) {first second after : List ℕ} {a b to : ℕ}
    → Wrote before 0 (encode_numbers (0 ∷ global ∷ length lengths ∷ [])) first a → Wrote first a (encode_numbers lengths) second b
    → Wrote second b (encode_numbers ravel) after to → 4 * (3 + length lengths + length ravel) ≤ length before
    → (take to after ≡ encode_record (file.load global lengths ravel)) × (to ≤ length before)
load-front global lengths ravel before u v w h =
    in-front before _ _ (load-bytes global lengths ravel) (then (then u v) w)
    (simp length-append
    (omega (arith, number_short 0, number_short global, number_short (length lengths), numbers-short lengths, numbers-short ravel)))

pub run-front : (budget : ℕ) (before : List ℕ) {after : List ℕ} {to : ℕ} → Wrote before 0 (encode_numbers (1 ∷ budget ∷ [])) after to
    → 8 ≤ length before → (take to after ≡ encode_record (file.run budget)) × (to ≤ length before)
unfolding encode_record
run-front budget before w h = in-front before _ _ refl w (omega (arith, numbers-short (1 ∷ budget ∷ [])))
