-- SHAPE, RAVEL, CATENATE, INDEXGEN and RESHAPE by the ways through them.
use Prim.Native.Nat.{ℕ, ◌^◌, ◌<◌, ◌≤◌, min}
use native.Mathlib.Omega.{arith}
use mathlib.Core.Path.{◌≡◌, refl, ap, ◌∙◌}
use mathlib.Core.Bool.{Bool, true, false, not, ◌&&◌}
use mathlib.Core.List.{List, [], ◌∷◌, ◌++◌}
use lib.Dec.{eqb}
use lib.ListN.{length}
use borrow.Author.Tests.{lt-ltb, le-ltb, le-leb, lt-leb, eq-eqb, ne_eqb, eqb-true}
use Rattle.descriptor.specs.Fields.{is_character}
use Rattle.scalar.specs.Reading.{whole_of}
use Rattle.segment.specs.Blocks.{product}
use Rattle.segment.specs.declared.blocks.Part.{Part}
use Rattle.segment.specs.Parts.{part_of}
use Rattle.segment.proofs.Runs.{part_length}
use Rattle.manual.specs.OrTrap.{gives, trap, and_then, stop_if}
use Rattle.manual.specs.Values.{Value, value, vector, rank, size, any, single, short_of, shorts, joined_shape, catenate, up_from, index_generator, cycle, reshape}
use Rattle.manual.specs.Scalars.{replace_by}
use Rattle.manual.proofs.Elements.{no_lengths, length-cycle}
use Rattle.elements.proofs.Filling.{length-up_from}
use Rattle.operands.specs.declared.reading.Value.{Value as Operand}
use Rattle.operands.specs.declared.reading.Value.TheVariants.{Scalar, Array}
use Rattle.operands.specs.Operands.{held, Stands, standing}
use Rattle.operands.proofs.ValuesSeen.{standing-words}
use Rattle.effects.specs.Sources.{operand_at}
use Rattle.std.specs.Prelude.{Err}
use Rattle.trap.specs.Trap.{trap_of}
use Rattle.effects.specs.Carried.{did, carry}
use Rattle.instructions_values.specs.Parts.{Readable, shaped}
use Rattle.instructions_values.proofs.Carrying.{carried-long}
use Rattle.instructions_values.proofs.Few.{lengths-few, elements-few}
use Rattle.instructions_values.proofs.Taking.{readable-found}

-- ---- what a value has

module _ (s : List ℕ) where
  pub rank-few : (v : Operand) → Readable s v → rank (held s v) ≤ 15
  rank-few (Scalar w) r = omega arith
  rank-few (Array block) r = lengths-few s block.0 (r.array block refl)

  pub size_few : length s ≤ 16384 → (v : Operand) → Readable s v → size (held s v) ≤ 16384
  size_few short (Scalar w) r = omega arith
  size_few short (Array block) r = elements-few s block.0 (r.array block refl) short _ refl

-- ---- CATENATE

pub part-words : (s : List ℕ) (i : ℕ) (v : Operand) → Stands s i v → (p : Part) → p ≡ standing s i v → part_of s p ≡ (held s v).ravel
part-words s i v stands p same = ap (part_of s) same ∙ standing-words s i v stands

module _ (a b : Value) where
  pub catenate-refused : (class number : ℕ) → trap class number ≡ joined_shape a.shape b.shape → trap class number ≡ catenate a b
  unfolding catenate
  catenate-refused class number e = rw (← e)

  pub catenate-joined : (lengths : List ℕ) → gives lengths ≡ joined_shape a.shape b.shape → gives (value lengths (a.ravel ++ b.ravel)) ≡ catenate a b
  unfolding catenate
  catenate-joined lengths e = rw (← e)

-- where an operand's elements stand there are no more words than the segment has
pub part-few : (s : List ℕ) → length s ≤ 16384 → (i : ℕ) (v : Operand) → Stands s i v → (p : Part) → p ≡ standing s i v → p.count ≤ 16384
part-few s short i v stands p same =
    omega
    (arith, size_few s short v (readable-found s (operand_at s i) v stands), part_length s p.start.0 p.count, ap length (part-words s i v stands p same))

-- ---- INDEXGEN

module _ (origin : ℕ) (v : Value) where
  pub generator-refused : (class number : ℕ) → trap class number ≡ single v → trap class number ≡ index_generator origin v
  unfolding index_generator
  generator-refused class number e = rw (← e)

  module _ (w : ℕ) (one : gives w ≡ single v) where
    pub generator-no-length : (class number : ℕ) → trap class number ≡ short_of (whole_of w) → trap class number ≡ index_generator origin v
    unfolding index_generator
    generator-no-length class number e = rw (← one, ← e)

    pub generator-numbers : (n : ℕ) → gives n ≡ short_of (whole_of w) → gives (vector (up_from origin n)) ≡ index_generator origin v
    unfolding index_generator
    generator-numbers n e = rw (← one, ← e)

pub numbers-long : (s : List ℕ) (origin n next : ℕ) → 16384 < n → did (Err (trap_of 1 2)) s ≡ carry s (replace_by next 1 (gives (vector (up_from origin n))))
numbers-long s origin n next more = carried-long s 1 (length (up_from origin n) ∷ []) (up_from origin n) next (omega (arith, length-up_from origin n))

-- ---- RESHAPE

module _ (a b : Value) where
  pub reshape-ranked : 1 < rank a → trap 5 0 ≡ reshape a b
  unfolding reshape
  reshape-ranked high = simp (lt-ltb 1 (rank a) high)

  pub reshape-many : rank a ≤ 1 → 15 < size a → trap 5 0 ≡ reshape a b
  unfolding reshape
  reshape-many low many = simp (le-ltb 1 (rank a) low, lt-ltb 15 (size a) many)

  module _ (low : rank a ≤ 1) (few : size a ≤ 15) where
    reshape-few : reshape a b ≡ and_then (stop_if (any is_character a.ravel) 7 0 (shorts a.ravel)) (λ lengths. shaped lengths b)
    unfolding reshape shaped
    reshape-few = simp (le-ltb 1 (rank a) low, le-ltb 15 (size a) few) (by-test (any is_character a.ravel))
      where
        by-test : (t : Bool) → stop_if t 7 0 (and_then (shorts a.ravel) (λ lengths. shaped lengths b)) ≡ and_then (stop_if t 7 0 (shorts a.ravel)) (λ lengths. shaped lengths b)
        by-test true = refl
        by-test false = refl

    pub reshape-refused : (class number : ℕ) → trap class number ≡ stop_if (any is_character a.ravel) 7 0 (shorts a.ravel) → trap class number ≡ reshape a b
    reshape-refused class number e = rw (reshape-few, ← e)

    pub reshape-lengths : (lengths : List ℕ) → gives lengths ≡ stop_if (any is_character a.ravel) 7 0 (shorts a.ravel) → shaped lengths b ≡ reshape a b
    reshape-lengths lengths e = rw (reshape-few, ← e)

module _ (lengths : List ℕ) (b : Value) (n : ℕ) (count : n ≡ min (product lengths) 65536) where
  pub shaped-many : 65536 ≤ n → trap 8 5 ≡ shaped lengths b
  unfolding shaped
  shaped-many many = simp (le-leb (2 ^ 16) (product lengths) (omega arith))

  module _ (few : n < 65536) where
    pub shaped-count : n ≡ product lengths
    shaped-count = omega arith

    pub shaped-empty : size b ≡ 0 → (n ≡ 0 → ⊥) → trap 6 0 ≡ shaped lengths b
    unfolding shaped
    shaped-empty none some = simp (lt-leb (2 ^ 16) (product lengths) (omega arith), eq-eqb (size b) 0 none, ne_eqb (product lengths) 0 (λ e. some (shaped-count ∙ e)))

    pub shaped-filled : (size b ≡ 0 → n ≡ 0) → gives (value lengths (cycle n b.ravel)) ≡ shaped lengths b
    unfolding shaped
    shaped-filled filled = rw (← shaped-count) (simp (lt-leb (2 ^ 16) n few) (by-test (eqb (size b) 0) refl))
      where
        by-test : (t : Bool) → eqb (size b) 0 ≡ t → gives (value lengths (cycle n b.ravel)) ≡ stop_if (t && not (eqb n 0)) 6 0 (gives (value lengths (cycle n b.ravel)))
        by-test true e = simp (eq-eqb n 0 (filled (eqb-true (size b) 0 e)))
        by-test false e = refl

-- As many elements as the lengths ask for.
module _ (lengths : List ℕ) (n : ℕ) (count : n ≡ product lengths) where
  pub repeated-long : (s : List ℕ) (next : ℕ) (ravel : List ℕ) → (length ravel ≡ 0 → n ≡ 0) → 16384 < n → did (Err (trap_of 1 2)) s ≡ carry s (replace_by next 2 (gives (value lengths (cycle n ravel))))
  repeated-long s next ravel filled long =
      rw (ne_eqb (length lengths) 0 (λ none. omega (arith, no_lengths lengths none)))
      (carried-long s 2 lengths (cycle n ravel) next (omega (arith, length-cycle n ravel filled)))
