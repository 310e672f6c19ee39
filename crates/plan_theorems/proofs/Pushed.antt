-- What the instructions that push give can be had.
use Prim.Native.Nat.{ℕ, ◌%◌, ◌^◌, ◌≤◌}
use mathlib.Core.Path.{◌≡◌}
use mathlib.Core.Bool.{Bool, true, false, cond, not}
use mathlib.Core.List.{List, [], ◌∷◌}
use native.Mathlib.Omega.{arith}
use lib.ListN.{length}
use borrow.Author.Tests.{not-false}
use Rattle.descriptor.specs.Fields.{integer_word}
use Rattle.descriptor.specs.Kinds.{bit, is_scalar}
use Rattle.descriptor.proofs.Truth.{bit_below}
use Rattle.storage.specs.Owned.{Proper}
use Rattle.procedure.specs.Headers.{code_of}
use Rattle.instruction.specs.declared.Instruction.{Instruction}
use Rattle.manual.specs.Values.{any}
use Rattle.manual.specs.Effects.{Source}
use Rattle.manual.specs.Seen.{Seen, variables_of}
use Rattle.manual.specs.Loads.{is_undefined}
use Rattle.manual.specs.Instructions.{Running, segment_of, header_of}
use Rattle.manual.specs.Cases.{words_of, Pushed, of_load, of_reference, of_test_defined, of_undefined, of_get_origin, of_short_constant, of_constant_scalar, of_constant_vector}
use Rattle.manual.proofs.Tests.{none-holds}
use Rattle.manual.proofs.Elements.{words-length}
use Rattle.scalar_theorems.specs.Validity.{Valid}
use Rattle.scalar_theorems.proofs.Validity.{valid-integer}
use Rattle.effects.specs.Sound.{Sound}
use Rattle.effects.specs.Fits.{Available}
use Rattle.plan_theorems.proofs.Lists.{All, all-count}
use Rattle.plan_theorems.proofs.Values.{Length, valid-length}
use Rattle.plan_theorems.proofs.Sees.{Sees, resolved}
use Rattle.plan_theorems.proofs.Fitting.{target_fits}

-- ---- words

pub valid-truth : (b : Bool) → Valid (cond b 0 1)
valid-truth true = valid-length 0 (omega arith)
valid-truth false = valid-length 1 (omega arith)

pub valid-short : (negative : Bool) (magnitude : ℕ) → Valid (integer_word (bit negative) (magnitude % 2 ^ 12))
valid-short negative magnitude = valid-integer (bit negative) (magnitude % 2 ^ 12) (bit_below negative) (omega arith)

-- ---- CONSTANT_VECTOR

all-scalars : (ws : List ℕ) → any (λ w. not (is_scalar w)) ws ≡ false → All (λ w. is_scalar w ≡ true) ws
all-scalars [] h = tt
all-scalars (w ∷ ws) h =
    let n = none-holds (not (is_scalar w)) (any (λ v. not (is_scalar v)) ws) h in
    (not-false (is_scalar w) n.0, all-scalars ws n.1)

vector-proper : (ws : List ℕ) → length ws ≤ 8388607 → All (λ w. is_scalar w ≡ true) ws → Proper (length ws ∷ []) ws
vector-proper ws n h = record {
  rank = (omega arith, omega arith);
  size = omega arith;
  lengths = all-count Length (length ws ∷ []) (n, tt);
  scalars = all-count (λ w. is_scalar w ≡ true) ws h;
}

-- ---- every source

pub source-available : {s : List ℕ} → Sound s → {f : Running} {v : Seen} → Sees s (variables_of (header_of f)) v → {i : Instruction} {source : Source}
    → Pushed f v i source → Available s source
source-available g {f} h (of_load {a = a} r e) = (resolved f h a r).there
source-available {s} g {f} h (of_reference {a = a} {x = x} r) = target_fits s g x.place (resolved f h a r).there
source-available g h (of_test_defined {x = x} r) = (valid-truth (is_undefined x.held)).scalar
source-available g h of_undefined = tt
source-available g {v = v} h of_get_origin = (valid-length v.origin (omega (arith, h.origin))).scalar
source-available g h (of_short_constant {negative} {magnitude}) = (valid-short negative magnitude).scalar
source-available g h (of_constant_scalar e) = e
source-available g {f} h (of_constant_vector {count} {first} e) =
    vector-proper (words_of f count first)
    (omega (arith, words-length (count % 2 ^ 8) (code_of (segment_of f) f.block) (first.0 % 2 ^ 16))) (all-scalars (words_of f count first) e)
