-- First bytes: that each falls in one range, and that none leaves a length open which it fixes, by a test of all 256 that is computed.
use mathlib.Core.Path.{◌≡◌, refl}
use mathlib.Core.Bool.{Bool, true, false, cond, ◌&&◌}
use mathlib.Core.List.{List, [], ◌∷◌}
use Prim.Native.Nat.{ℕ, ◌≤◌, ◌<◌}
use lib.Dec.{leb, ltb, eqb}
use borrow.Author.Tests.{leb-true, ltb-true, eqb-true}
use Rattle.descriptor.proofs.Truth as truth
use Rattle.operator.specs.Table.{operator_of}
use Rattle.procedure.specs.Headers.{code_start}
use Rattle.instruction.specs.declared.length.Length.{Length}
use Rattle.instruction.specs.declared.length.Length.TheVariants.{Fixed, ByAddress, ByCount, NoInstruction}
use Rattle.instruction.specs.Families.{first_bytes, family_in, family_of}
use Rattle.instruction.specs.Reading.{fetch_byte, fetch_words}
use Rattle.instruction.specs.Variables.{address_in, address_at}
use Rattle.instruction.specs.Tables.{memory_of, etc_of}
use Rattle.instruction.specs.Lengths.{length_by}
use Rattle.instruction.specs.Decoding.{memory_at, constant_vector_at, etc_at, family_at, instruction_at}
use Rattle.descriptor.proofs.Computed.{every, everywhere}
use Rattle.instruction.proofs.Ranges.{is-short-local, is-short-const, is-gen-scalar, is-mem-ref, is-etc, is-long-local, is-long-global, is-index, is-unassigned}
use Rattle.instruction_theorems.specs.FirstBytes.{holding, Sorted, Open, first_end, all_bytes, TwoLengths}

-- ---- ranges

abbrev once_at : ℕ → Bool
once_at b = eqb (holding first_bytes b) 1

pub one-range : (b : ℕ) → b < 256 → holding first_bytes b ≡ 1
one-range b h = eqb-true (holding first_bytes b) 1 (everywhere once_at 256 refl b h)

-- A range that holds a byte has it between its ends.
between : (b low high : ℕ) → (leb low b && leb b high) ≡ true → (low ≤ b) × (b ≤ high)
between b low high held =
    let bounds = truth.both (leb low b) (leb b high) held in
    (leb-true low b bounds.0, leb-true b high bounds.1)

pub sorted : (b : ℕ) → Sorted first_bytes b
sorted b = (
  λ held. is-short-local b (between b 0x00 0x3F held).1,
  (
    λ held. let h = between b 0x40 0x5F held in is-short-const b h.0 h.1,
    (
      λ held. let h = between b 0x60 0x7F held in is-gen-scalar b h.0 h.1,
      (
        λ held. let h = between b 0x80 0x9F held in is-mem-ref b h.0 h.1,
        (
          λ held. let h = between b 0xA0 0xBF held in is-etc b h.0 h.1,
          (
            λ held. let h = between b 0xC0 0xCF held in is-long-local b h.0 h.1,
            (
              λ held. let h = between b 0xD0 0xDF held in is-long-global b h.0 h.1,
              (
                λ held. let h = between b 0xE0 0xEF held in is-index b h.0 h.1,
                (
                  λ held. let h = between b 0xF0 0xFF held in is-unassigned b h.0 h.1,
                  tt,
                ),
              ),
            ),
          ),
        ),
      ),
    ),
  ),
)

-- ---- lengths that what follows says

-- An address of one byte and one of two; no words and one.
abbrev follows : Length → Bool → List ℕ
follows ByAddress longer = cond longer (0xC0 ∷ 0x00 ∷ []) (0x00 ∷ [])
follows ByCount longer = cond longer (1 ∷ 0 ∷ 0 ∷ 0 ∷ 0 ∷ 0 ∷ 0 ∷ []) (0 ∷ 0 ∷ 0 ∷ [])
follows (Fixed bytes) longer = []
follows NoInstruction longer = []

abbrev differs : ℕ → Length → Bool
differs b length =
    ltb code_start (first_end (b ∷ follows length false)) && ltb (first_end (b ∷ follows length false)) (first_end (b ∷ follows length true))

abbrev two_at : ℕ → Length → Bool
two_at b (Fixed bytes) = true
two_at b ByAddress = differs b ByAddress
two_at b ByCount = differs b ByCount
two_at b NoInstruction = true

two-lengths : (b : ℕ) (length : Length) → (all_bytes (follows length false) && all_bytes (follows length true)) ≡ true → differs b length ≡ true → TwoLengths b
two-lengths b length bytes t =
    let passed = truth.both (ltb code_start (first_end (b ∷ follows length false))) (ltb (first_end (b ∷ follows length false)) (first_end (b ∷ follows length true))) t in
    record {
      one = follows length false;
      other = follows length true;
      bytes = bytes;
      starts = ltb-true _ _ passed.0;
      longer = ltb-true _ _ passed.1;
    }

if-open : (b : ℕ) (length : Length) → two_at b length ≡ true → Open length → TwoLengths b
if-open b (Fixed bytes) t opened = absurd opened
if-open b ByAddress t opened = two-lengths b ByAddress refl t
if-open b ByCount t opened = two-lengths b ByCount refl t
if-open b NoInstruction t opened = absurd opened

two-everywhere : every (λ (k : ℕ). two_at k (length_by k)) 256 ≡ true
unfolding length_by operator_of memory_of etc_of family_of family_in instruction_at family_at memory_at etc_at constant_vector_at address_at address_in fetch_byte fetch_words
two-everywhere = refl

pub varies : (b : ℕ) → b < 256 → Open (length_by b) → TwoLengths b
varies b h = if-open b (length_by b) (everywhere (λ (k : ℕ). two_at k (length_by k)) 256 two-everywhere b h)
