-- The family of a first byte: a law for each range, by what is computed at each of its bytes.
use mathlib.Core.Path.{◌≡◌, refl}
use mathlib.Core.List.{[], ◌∷◌}
use Prim.Native.Nat.{ℕ, ◌≤◌}
use native.Mathlib.Omega.{arith}
use Rattle.operator.specs.Table.{lookup}
use Rattle.instruction.specs.declared.family.Family.{Family}
use Rattle.instruction.specs.declared.family.Family.TheVariants.{ShortLocal, ShortConst, GenScalar, MemRef, Etc, LongLocal, LongGlobal, Index, Unassigned}
use Rattle.instruction.specs.Families.{family_in, family_of, order_of}
use Rattle.descriptor.proofs.Computed.{Throughout, throughout}

-- The family in that place of the order.
abbrev in_order : ℕ → Family
in_order n =
    lookup n
    ((0, ShortLocal)
    ∷ (1, ShortConst)
    ∷ (2, GenScalar)
    ∷ (3, MemRef)
    ∷ (4, Etc)
    ∷ (5, LongLocal)
    ∷ (6, LongGlobal)
    ∷ (7, Index)
    ∷ [])
    Unassigned

undone : (family : Family) → in_order (order_of family) ≡ family
undone ShortLocal = refl
undone ShortConst = refl
undone GenScalar = refl
undone MemRef = refl
undone Etc = refl
undone LongLocal = refl
undone LongGlobal = refl
undone Index = refl
undone Unassigned = refl

in-range : (family : Family) (low high : ℕ) → Throughout order_of family_of family low high → (b : ℕ) → low ≤ b → b ≤ high → family_of b ≡ family
in-range = throughout order_of in_order undone family_of

module _ (b : ℕ) where
  pub is-short-local : b ≤ 0x3F → family_of b ≡ ShortLocal
  unfolding family_of family_in
  is-short-local h = in-range ShortLocal 0x00 0x3F refl b (omega arith) h

  pub is-short-const : 0x40 ≤ b → b ≤ 0x5F → family_of b ≡ ShortConst
  unfolding family_of family_in
  is-short-const l h = in-range ShortConst 0x40 0x5F refl b l h

  pub is-gen-scalar : 0x60 ≤ b → b ≤ 0x7F → family_of b ≡ GenScalar
  unfolding family_of family_in
  is-gen-scalar l h = in-range GenScalar 0x60 0x7F refl b l h

  pub is-mem-ref : 0x80 ≤ b → b ≤ 0x9F → family_of b ≡ MemRef
  unfolding family_of family_in
  is-mem-ref l h = in-range MemRef 0x80 0x9F refl b l h

  pub is-etc : 0xA0 ≤ b → b ≤ 0xBF → family_of b ≡ Etc
  unfolding family_of family_in
  is-etc l h = in-range Etc 0xA0 0xBF refl b l h

  pub is-long-local : 0xC0 ≤ b → b ≤ 0xCF → family_of b ≡ LongLocal
  unfolding family_of family_in
  is-long-local l h = in-range LongLocal 0xC0 0xCF refl b l h

  pub is-long-global : 0xD0 ≤ b → b ≤ 0xDF → family_of b ≡ LongGlobal
  unfolding family_of family_in
  is-long-global l h = in-range LongGlobal 0xD0 0xDF refl b l h

  pub is-index : 0xE0 ≤ b → b ≤ 0xEF → family_of b ≡ Index
  unfolding family_of family_in
  is-index l h = in-range Index 0xE0 0xEF refl b l h

  pub is-unassigned : 0xF0 ≤ b → b ≤ 0xFF → family_of b ≡ Unassigned
  unfolding family_of family_in
  is-unassigned l h = in-range Unassigned 0xF0 0xFF refl b l h
