-- A look does what `Did` says: the parts handed back are the shape and the ravel of what the global is seen as.
use Prim.Native.Nat.{ℕ, ◌+◌, ◌≤◌, ◌<◌}
use mathlib.Core.Path.{◌≡◌, refl, sym, ◌∙◌, subst}
use mathlib.Core.Bool.{Bool, true, false, cond, not}
use mathlib.Core.Logic.{◌≢◌, inl, inr}
use mathlib.Core.List.{List, [], ◌∷◌}
use native.Mathlib.Omega.{arith}
use lib.Dec.{leb, ltb, eqb}
use lib.ListN.{get_or, length}
use borrow.Author.Tests.{leb-true, ltb-true, eqb-true, eq-eqb, ne_eqb}
use Rattle.descriptor.specs.declared.Kind.{Kind}
use Rattle.descriptor.specs.declared.Kind.TheVariants as K
use Rattle.descriptor.specs.Kinds.{kind_of}
use Rattle.descriptor.proofs.Truth as truth
use Rattle.segment.specs.State.{blockptr}
use Rattle.segment.specs.Blocks.{size_at, rank_at, product, shape_at, elements_at}
use Rattle.segment.specs.Parts.{shape_part, elements_part}
use Rattle.segment.specs.Cells.{value, invalid, cell_of_kind, cell}
use Rattle.segment.proofs.Parts.{shape-part, elements-part}
use Rattle.acceptance_storage.proofs.Tests.{by-eq, both}
use Rattle.acceptance.specs.Refusal.{refusal}
use Rattle.acceptance.specs.Structure.{Accepted}
use Rattle.acceptance.proofs.Structure.{structure}
use Rattle.manual.specs.Loads.{is_undefined}
use Rattle.effects.specs.Seen.{whole, read_kind, read}
use Rattle.effects_theorems.proofs.Tests.{never}
use Rattle.effects_theorems.proofs.Reading.{read_cell}
use Rattle.legality.specs.Legal.{DirectCell}
use Rattle.legality.proofs.Legal.{global-direct}
use Rattle.legality.proofs.Cells.{look-global}
use Rattle.legality.proofs.Owners.{global-owns}
use Rattle.legality.proofs.Accepted.{legal-theorems}
use Rattle.step_theorems.proofs.Again.{sound-of}
use Rattle.operations.specs.declared.Looked.{Looked}
use Rattle.std.proofs.Common.{Result, Err}
use Rattle.operations.specs.Load.{is_global}
use Rattle.operations.specs.Look.{seen_as, looked}
use Rattle.audit.specs.Calls.{Procedures, look_answer, look, first_failed, tests, test, global_value}
use Rattle.audit.specs.Did.{Tells, Did, is_refused, has_told}
use Rattle.audit.proofs.Tests.{further-told}

pub global-within : (s : List ℕ) (g : ℕ) → is_global s g ≡ true → (8 ≤ g) × (g < blockptr s)
unfolding is_global
global-within s g h = let k = both (leb 8 g) (ltb g (blockptr s)) h in (leb-true _ _ k.0, ltb-true _ _ k.1)

-- ---- the parts of a block

read_whole : (b : Bool) (shape ravel : List ℕ) → cond b (value shape ravel) invalid ≡ value shape ravel → b ≡ true
read_whole true shape ravel e = refl
read_whole false shape ravel e = let z : ◌≡◌ {A = ℕ} 0 1 = cc in absurd (omega arith)

module _ (s : List ℕ) (a : ℕ) where
  parts_seen : whole s a ≡ true → value (shape_at s a) (elements_at s a) ≡ value (shape_part s a) (elements_part s a)
  unfolding whole
  parts_seen h =
      let r = truth.both (leb 1 (rank_at s a)) _ h in
      let k = truth.both (eqb (size_at s a) (2 + rank_at s a + product (shape_at s a))) (leb (a + size_at s a) (length s)) r.1 in
      let size : size_at s a ≡ 2 + rank_at s a + product (shape_at s a) = eqb-true _ _ k.0 in
      let fits : a + size_at s a ≤ length s = leb-true _ _ k.1 in
      rw (shape-part s a (omega arith), elements-part s a size fits)

-- ---- what is told of a word, by its kind

module _ (s : List ℕ) (v : ℕ) where
  tells : (k : Kind) → DirectCell (cell_of_kind s v k) → is_undefined (cell_of_kind s v k) ≡ false → read_kind s v k ≡ cell_of_kind s v k
      → Tells s (look_answer (seen_as v k)) (cell_of_kind s v k)
  tells (K.Scalar k) d u r = inl (v, refl, refl)
  tells (K.Array a) d u r = inr (a.0, refl, parts_seen s a.0 (read_whole (whole s a.0) (shape_at s a.0) (elements_at s a.0) r))
  tells (K.Indirect t) d u r = absurd d
  tells K.Undefined d u r = never u
  tells K.Invalid d u r = absurd d

  tells_none : (k : Kind) → is_undefined (cell_of_kind s v k) ≡ true → seen_as v k ≡ Err 22
  tells_none (K.Scalar k) u = never (sym u)
  tells_none (K.Array a) u = never (sym u)
  tells_none (K.Indirect t) u = never (sym u)
  tells_none K.Undefined u = refl
  tells_none K.Invalid u = never (sym u)

-- ---- the call

module _ (s : List ℕ) (p : Procedures) (g : ℕ) where
  abbrev number : ℕ
  number = refusal s p.regular p.alternate

  abbrev first : ℕ
  first = first_failed (tests s (look p g))

  abbrev answer : Result Looked ℕ
  answer = looked s p.regular p.alternate g

  abbrev v : ℕ
  v = get_or s g 0

  abbrev LookDid : Result Looked ℕ → Type 0
  LookDid a = Did s (look p g) (look_answer a) s

  -- the ways of the table
  first-is : first ≡ cond (eqb number 0) (cond (is_global s g) (cond (not (is_undefined (global_value s g))) 0 22) 21) number
  first-is = further-told s p (test 21 (is_global s g) ∷ test 22 (not (is_undefined (global_value s g))) ∷ [])

  stops : (n : ℕ) → n ≢ 0 → first ≡ n → answer ≡ Err n → LookDid answer
  stops n d f e = subst LookDid (sym e) (is_refused d f)

  refused-by : number ≢ 0 → (first ≡ number) × (answer ≡ Err number)
  unfolding looked
  refused-by h = (first-is ∙ simp (ne_eqb number 0 h), simp (ne_eqb number 0 h))

  module _ (h : number ≡ 0) where
    outside : is_global s g ≡ false → (first ≡ 21) × (answer ≡ Err 21)
    unfolding looked
    outside k = (first-is ∙ simp (eq-eqb number 0 h, k), simp (eq-eqb number 0 h, k))

    module _ (k : is_global s g ≡ true) where
      within : (first ≡ cond (not (is_undefined (global_value s g))) 0 22) × (answer ≡ seen_as v (kind_of v))
      unfolding looked
      within = (first-is ∙ simp (eq-eqb number 0 h, k), simp (eq-eqb number 0 h, k))

      start : Accepted s p.regular p.alternate
      start = structure.sound s p.regular p.alternate h

      held-is : global_value s g ≡ cell_of_kind s v (kind_of v)
      unfolding cell
      held-is = let b = global-within s g k in look-global s g b.0 b.1

      held-direct : DirectCell (global_value s g)
      held-direct = global-direct (legal-theorems.split s p.regular p.alternate start).legal g

      held-read : read_kind s v (kind_of v) ≡ cell_of_kind s v (kind_of v)
      unfolding read cell
      held-read = let b = global-within s g k in read_cell s (sound-of start) v (global-owns s g b.0 b.1)

      value-told : is_undefined (global_value s g) ≡ false → Tells s (look_answer answer) (global_value s g)
      value-told u =
          rw (within.1, held-is)
          (tells s v (kind_of v) (rw held-is at held-direct) (rw held-is at u) held-read)

      none_told : is_undefined (global_value s g) ≡ true → answer ≡ Err 22
      none_told u = within.1 ∙ tells_none s v (kind_of v) (rw held-is at u)

  pub look-did : LookDid answer
  look-did = by-eq number 0 (λ h. inside h (is_global s g) refl) (λ h. stops number h (refused-by h).0 (refused-by h).1)
    where
      holding : (h : number ≡ 0) (k : is_global s g ≡ true) (b : Bool) → is_undefined (global_value s g) ≡ b → LookDid answer
      holding h k true u = stops 22 (omega arith) ((within h k).0 ∙ rw u) (none_told h k u)
      holding h k false u = has_told ((within h k).0 ∙ rw u) (value-told h k u)

      inside : number ≡ 0 → (b : Bool) → is_global s g ≡ b → LookDid answer
      inside h true k = holding h k (is_undefined (global_value s g)) refl
      inside h false k = stops 21 (omega arith) (outside h k).0 (outside h k).1
