-- ASSIGN_INDEXED, once the variable is seen to hold an array, and its operands to be scalars.
use Rattle.std.proofs.Common.{Some, None, Ok, Err}
use Rattle.trap.specs.declared.Trap.{Trap}
use Rattle.trap.specs.Trap.{trap_of}
use Rattle.scalar.specs.Results.{Answer}
use Prim.Native.Nat.{ℕ, ◌+◌, ◌≤◌}
use mathlib.Core.Path.{◌≡◌, refl, sym, ap, ◌∙◌}
use mathlib.Core.Bool.{Bool, true, false, cond}
use mathlib.Core.List.{List}
use native.Mathlib.Omega.{arith}
use lib.Dec.{eqb}
use lib.ListN.{length, take, get_or}
use lib.Seq.{take-take, get_or-take}
use borrow.Author.Tests.{eq-eqb, ne_eqb}
use Rattle.descriptor.specs.declared.address.SegmentAddress.{SegmentAddress}
use Rattle.descriptor.specs.declared.Target.{Target}
use Rattle.descriptor.specs.declared.Kind.{Kind}
use Rattle.descriptor.specs.declared.Kind.TheVariants as K
use Rattle.descriptor.specs.Fields.{address}
use Rattle.descriptor.specs.Kinds.{kind_of, segment}
use Rattle.descriptor.proofs.Arrays.{array_of, array_kind_lem, kind-array}
use Rattle.segment.specs.State.{flags, iorg}
use Rattle.segment.specs.Blocks.{product, shape_at}
use Rattle.manual.specs.OrTrap.{and_then}
use Rattle.manual.specs.Effects.{Plan}
use Rattle.manual.specs.Values as values
use Rattle.manual.specs.Values.{answered}
use Rattle.effects.specs.Sources.{held_at}
use Rattle.effects.specs.Seen.{whole}
use Rattle.operands.specs.declared.reading.Value.TheVariants.{Array}
use Rattle.operands.specs.Operands.{operand_of_kind, operand_of}
use Rattle.operands.proofs.Whole.{whole-facts}
use Rattle.operands.proofs.ValuesSeen.{array_whole}
use Rattle.effects_code.specs.Done.{Held}
use Rattle.effects.specs.Carried.{did, carry}
use Rattle.instructions_memory.specs.Indexed.{Indexed}
use Rattle.instructions_memory.proofs.Indexing.{stored, element_in, indexed, judged}

-- ---- the block that an array's word names

kind-address : (w : ℕ) (a : SegmentAddress) → kind_of w ≡ K.Array a → a.0 ≡ address w
kind-address w a e =
    let again = array_of w (rw e at (kind-array w)) in
    let same : K.Array a ≡ K.Array (segment (address w)) = sym e ∙ ap kind_of again ∙ array_kind_lem (address w) (omega arith) in
    let named : a ≡ segment (address w) = cc in
    ap (λ (b : SegmentAddress). b.0) named

operand-address : (s : List ℕ) (w : ℕ) (block : SegmentAddress) → operand_of s w ≡ Some (Array block) → block.0 ≡ address w
unfolding operand_of
operand-address s w block e = by_kind (kind_of w) refl e
  where
    by_kind : (k : Kind) → kind_of w ≡ k → operand_of_kind s w k ≡ Some (Array block) → block.0 ≡ address w
    by_kind (K.Scalar k) is e = cc
    by_kind (K.Array a) is e = by_whole (whole s a.0) e
      where
        by_whole : (b : Bool) → cond b (Some (Array a)) None ≡ Some (Array block) → block.0 ≡ address w
        by_whole true e = let same : K.Array a ≡ K.Array block = cc in kind-address w block (is ∙ same)
        by_whole false e = cc
    by_kind (K.Indirect t) is e = cc
    by_kind K.Undefined is e = cc
    by_kind K.Invalid is e = cc

-- ---- the element

module _ (s : List ℕ) (rank : ℕ) (t : Target) (block : SegmentAddress) (words : List ℕ) (known : Indexed s rank t block words) where
  abbrev lengths : List ℕ
  lengths = shape_at s block.0

  pub block-whole : whole s block.0 ≡ true
  block-whole = array_whole s (held_at s t) block known.array

  pub block_held : Held s t block.0
  block_held =
      let there = operand-address s (held_at s t) block known.array in
      record { there = there; readable = rw (← there) block-whole }

  pub few-elements : product lengths ≤ 65536
  few-elements = let facts = whole-facts s block.0 block-whole in omega arith

  module _ (next : ℕ) where
    abbrev assigned : Plan
    assigned = indexed s next rank t (held_at s t)

    cut : element_in s next rank t lengths words ≡ element_in s next rank t lengths (take (rank + 1) words)
    cut = rw (take-take rank (rank + 1) words (omega arith), get_or-take (rank + 1) words rank 0 (omega arith))

    planned : element_in s next rank t lengths words ≡ assigned
    planned =
        let facts = whole-facts s block.0 block-whole in
        let several : eqb (length lengths) 0 ≡ false = ne_eqb (length lengths) 0 (λ none. omega arith) in
        cut ∙ (rw (known.scalars, several) at (judged s next rank t (held_at s t) known.enough (Array block) known.array))

    pub other-rank : (rank ≡ length lengths → ⊥) → did (Err (trap_of 9 1)) s ≡ carry s assigned
    other-rank differs = ap (carry s) (rw (ne_eqb rank (length lengths) differs) at planned)

    module _ (same : rank ≡ length lengths) where
      placed : (f : Answer) → answered f ≡ values.ravel_place (iorg (flags s)) (take rank words) lengths → and_then (answered f) (stored s next rank t (get_or words rank 0)) ≡ assigned
      placed f e = rw e (rw (eq-eqb rank (length lengths) same) at planned)

      pub outside : (f : Answer) (t : Trap) → f ≡ Err t → answered f ≡ values.ravel_place (iorg (flags s)) (take rank words) lengths → did (Err t) s ≡ carry s assigned
      outside f t is e = ap (carry s) (rw is at (placed f e))

      pub element-found : (f : Answer) (k : ℕ) → f ≡ Ok k → answered f ≡ values.ravel_place (iorg (flags s)) (take rank words) lengths → carry s (stored s next rank t (get_or words rank 0) k) ≡ carry s assigned
      element-found f k is e = ap (carry s) (rw is at (placed f e))
