-- Values that have a place in storage, and the source that each gives.
use Prim.Native.Nat.{ℕ, ◌^◌, ◌<◌, ◌≤◌}
use mathlib.Core.Path.{◌≡◌, refl}
use mathlib.Core.Bool.{Bool, true, false, cond}
use mathlib.Core.List.{List, [], ◌∷◌}
use native.Mathlib.Omega.{arith}
use lib.Dec.{eqb}
use lib.ListN.{length}
use borrow.Author.Tests.{eqb-true, eqb-false}
use Rattle.descriptor.specs.Kinds.{is_scalar}
use Rattle.segment.specs.Blocks.{product}
use Rattle.storage.specs.Owned.{Proper}
use Rattle.manual.specs.Values.{Value, scalar, rank, first}
use Rattle.manual.specs.Effects.{word, made}
use Rattle.manual.specs.Scalars.{result_source}
use Rattle.manual.proofs.Elements.{no_lengths}
use Rattle.effects.specs.Fits.{Available}
use Rattle.scalar_theorems.specs.Validity.{Valid}
use Rattle.scalar_theorems.proofs.Validity.{valid-small}
use Rattle.plan_theorems.proofs.Lists.{All, all-count}

-- A length, which is an integer's word.
abbrev pub Length : ℕ → Type 0
Length w = w ≤ 8388607

pub valid-length : (w : ℕ) → Length w → Valid w
valid-length w h = valid-small w (omega arith) (omega arith) (λ z. omega arith)

-- A value that a word or a block can hold: its lengths are integers, its elements scalars.
pub record ValueFits (v : Value) : Type 0 where
  pub rank : length v.shape ≤ 15
  pub size : product v.shape ≡ length v.ravel
  pub lengths : All Length v.shape
  pub scalars : All Valid v.ravel

pub scalar_fits : (w : ℕ) → Valid w → ValueFits (scalar w)
scalar_fits w h = record { rank = omega arith; size = refl; lengths = tt; scalars = (h, tt) }

-- The value that a word or a block holds: SIZE has sixteen bits.
pub record Stored (v : Value) : Type 0 where
  pub fits : ValueFits v
  pub short : length v.ravel < 2 ^ 16

pub scalar-stored : (w : ℕ) → Valid w → Stored (scalar w)
scalar-stored w h = record { fits = scalar_fits w h; short = omega arith }

-- elements that are there have a first
first_of : (P : ℕ → Type 0) (l : List ℕ) → 0 < length l → All P l → P (first l)
first_of P [] n h = absurd (omega arith)
first_of P (x ∷ l) n h = h.0

module _ (s : List ℕ) (v : Value) (h : ValueFits v) where
  scalar-available : length v.shape ≡ 0 → is_scalar (first v.ravel) ≡ true
  scalar-available e = (first_of Valid v.ravel (omega (arith, h.size, no_lengths v.shape e)) h.scalars).scalar

  array-proper : (length v.shape ≡ 0 → ⊥) → Proper v.shape v.ravel
  array-proper n =
      record {
        rank = (omega (arith, n), h.rank);
        size = h.size;
        lengths = all-count Length v.shape h.lengths;
        scalars = λ w k. (all-count Valid v.ravel h.scalars w k).scalar;
      }

  pub value-available : Available s (result_source v)
  value-available = go (eqb (rank v) 0) refl
    where
      go : (b : Bool) → eqb (rank v) 0 ≡ b → Available s (cond b (word (first v.ravel)) (made v.shape v.ravel))
      go true e = scalar-available (eqb-true _ _ e)
      go false e = array-proper (eqb-false _ _ e)
