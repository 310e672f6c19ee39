-- A number's groups written one after the other.
use Prim.Native.Nat.{ℕ, suc, ◌+◌, ◌/◌, ◌%◌, ◌≤◌, ◌<◌}
use native.Mathlib.Numerals.{add-one}
use native.Mathlib.Omega.{arith}
use mathlib.Core.Path.{◌≡◌, refl, ◌∙◌}
use mathlib.Core.List.{List}
use borrow.Author.Tests.{lt-ltb, le-ltb}
use lib.ListN.{length, set, length-set}
use lib.Seq.{sets}
use Rattle.imports.specs.Encoding.{encode_groups, encode_number}

-- the groups of the rest are still to be written, from another place on
pub record Writing (n at : ℕ) (out₀ out : List ℕ) (rest to groups : ℕ) : Type 0 where
  pub bytes : sets out to (encode_groups groups rest) ≡ sets out₀ at (encode_number n)
  pub place : to + length (encode_groups groups rest) ≡ at + length (encode_number n)
  pub as_long : length out ≡ length out₀
  pub room : to + groups ≡ at + 4

pub writing-start : {n at : ℕ} {out : List ℕ} → Writing n at out out n at 4
unfolding encode_number
writing-start = record { bytes = refl; place = refl; as_long = refl; room = refl }

module _ {n at : ℕ} {out₀ out : List ℕ} {rest to groups : ℕ} (w : Writing n at out₀ out rest to groups) where
  module _ (less : ℕ) (e : groups ≡ suc less) where
    pub writing-last : rest < 128 → (set out to rest ≡ sets out₀ at (encode_number n)) × (to + 1 ≡ at + length (encode_number n))
    unfolding encode_groups
    writing-last h = (rw (e, lt-ltb rest 128 h) at w.bytes, rw (e, lt-ltb rest 128 h) at w.place)

    pub writing-more : 128 ≤ rest → Writing n at out₀ (set out to (128 + rest % 128)) (rest / 128) (to + 1) less
    unfolding encode_groups
    writing-more h = record {
      bytes = rw (add-one to) (rw (e, le-ltb rest 128 h) at w.bytes);
      place = let p = rw (e, le-ltb rest 128 h) at w.place in omega (arith, p);
      as_long = length-set out to _ ∙ w.as_long;
      room = omega (arith, w.room);
    }

  pub writing-none : groups ≡ 0 → (out ≡ sets out₀ at (encode_number n)) × (to ≡ at + length (encode_number n))
  unfolding encode_groups
  writing-none e = (rw e at w.bytes, let p = rw e at w.place in omega (arith, p))
