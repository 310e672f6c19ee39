-- The numbers of runs, replays and looks come apart again: steps and places are below 2 to the 32, and an array of an accepted
-- segment lies below 16,384.
use Rattle.std.specs.Prelude.{Result, Ok, Err}
use Rattle.trap.specs.declared.Trap.{Trap}
use Prim.Native.Nat.{ℕ, zero, suc, ◌+◌, ◌-◌, ◌^◌, ◌≤◌, ◌<◌}
use native.Mathlib.Omega.{arith}
use mathlib.Core.Path.{◌≡◌, refl, sym, ap, ◌∙◌}
use mathlib.Core.Bool.{Bool, true, false, cond}
use mathlib.Core.Logic.{inl, inr}
use mathlib.Core.List.{List}
use lib.ListN.{length, get_or, set}
use lib.Dec.{leb, ltb, eqb}
use borrow.Author.Tests.{leb-true, ltb-true, eq-eqb, ne_eqb}
use Rattle.descriptor.specs.declared.address.SegmentAddress.{SegmentAddress}
use Rattle.descriptor.specs.declared.Kind.{Kind}
use Rattle.descriptor.specs.declared.Kind.TheVariants as K
use Rattle.descriptor.specs.Fields.{address, undefined_word}
use Rattle.descriptor.specs.Kinds.{segment, kind_of, unsigned_kind, undefined_kind, is_scalar}
use Rattle.descriptor.proofs.Arrays.{array_kind_lem}
use Rattle.segment.specs.State.{blockptr}
use Rattle.segment.specs.Blocks.{part, size_at, rank_at, product, shape_at, elements_at}
use Rattle.segment.specs.Parts.{shape_part, elements_part}
use Rattle.segment.proofs.Parts.{shape-part, elements-part}
use Rattle.storage.specs.Owned.{ArrayIn, Inside}
use Rattle.storage_theorems.proofs.Cells.{array_of}
use Rattle.storage_theorems.proofs.Owners.{array-place}
use Rattle.acceptance_storage.proofs.Tests.{never, both, by-eq}
use Rattle.acceptance_storage.proofs.Tiling.{array-counted}
use Rattle.acceptance.specs.Refusal.{refusal}
use Rattle.acceptance.specs.Structure.{Direct, Accepted}
use Rattle.acceptance.proofs.Structure.{structure}
use Rattle.manual.specs.Program.{Program}
use Rattle.effects.specs.declared.Stepped.{Stepped}
use Rattle.effects.specs.declared.Stepped.TheVariants as stepped
use Rattle.effects.specs.Step.{step_of}
use Rattle.effects.specs.Run.{RunResult, following, steps_from, run_of}
use Rattle.std.proofs.Common.{Result, Ok, Err}
use Rattle.effects.specs.declared.Ran.{Ran}
use Rattle.operations.specs.declared.Looked.TheVariants.{Scalar, Array}
use Rattle.operations.specs.Answers.{Stop, steps_of, replay_place}
use Rattle.operations.specs.Load.{is_global}
use Rattle.operations.specs.Look.{seen_as, looked}
use Rattle.operations.specs.Replay.{replayed}
use Rattle.operations.specs.Run as operations
use Rattle.crms_export.specs.Numbers.{fields, look_number}
use Rattle.crms_export.specs.Apart.{status_in, rank_in, first_word_in, count_in, RunApart, ReplayApart, LookApart, Apart}
use Rattle.crms_export.proofs.Numbers.{part_length}
use Rattle.operations.proofs.Replays.{place_inside}

-- ---- runs

abbrev steps_in : RunResult → ℕ
steps_in o = steps_of (Ok o.answer)

followed : (steps more : ℕ) (answer : Result Stepped Trap) (s : List ℕ) (next : List ℕ → RunResult) → ((t : List ℕ) → steps_in (next t) ≤ steps + suc more)
    → steps_in (following steps answer s next) ≤ steps + suc more
followed steps more (Ok stepped.Finished) s next h = h s
followed steps more (Ok (stepped.Traced trap)) s next h = omega arith
followed steps more (Err trap) s next h = omega arith

-- no more steps than were asked for
steps-most : (budget steps : ℕ) (p : Program) (s : List ℕ) → steps_in (steps_from budget steps p s) ≤ steps + budget
unfolding steps_from
steps-most zero steps p s = omega arith
steps-most (suc budget) steps p s =
    followed steps budget (step_of p s).answer (step_of p s).words _
    (λ t. omega (arith, steps-most budget (steps + 1) p t))

run-apart : (answer : Result Ran ℕ) → steps_of answer < 2 ^ 32 → RunApart answer
run-apart answer l = record { status = omega arith; steps = omega arith }

module _ (s : List ℕ) (p : Program) (budget : ℕ) where
  ran-most : (b : Bool) → eqb (operations.run_refusal s p) 0 ≡ b → steps_of (operations.ran s p budget).answer ≤ budget
  unfolding operations.ran run_of
  ran-most true e = rw e (omega (arith, steps-most budget 0 p (set s 3 0)))
  ran-most false e = rw e (omega arith)

  runs : budget < 2 ^ 32 → RunApart (operations.ran s p budget).answer
  runs l = run-apart _ (omega (arith, ran-most (eqb (operations.run_refusal s p) 0) refl))

-- ---- replays

replay-apart : (answer : Result (Unit {0}) Stop) → replay_place answer < 2 ^ 32 → ReplayApart answer
replay-apart answer l = record { status = omega arith; place = omega arith }

replays : (s : List ℕ) (p : Program) (file : List ℕ) → length file ≤ 2 ^ 32 → ReplayApart (replayed s p file).answer
replays s p file l = replay-apart _ (place_inside s p file l)

-- ---- the numbers of looks

record Fields (n status rank first count : ℕ) : Type 0 where
  status-is : status_in n ≡ status
  rank_is : rank_in n ≡ rank
  first-is : first_word_in n ≡ first
  count-is : count_in n ≡ count

told : (status rank first count : ℕ) → rank < 2 ^ 4 → first < 2 ^ 14 → count < 2 ^ 14 → Fields (fields status rank first count) status rank first count
told status rank first count r f c =
    record { status-is = omega arith; rank_is = omega arith; first-is = omega arith; count-is = omega arith }

refused-apart : (s : List ℕ) (g number : ℕ) → LookApart s g (Err number)
refused-apart s g number =
    let f = told number 0 0 0 (omega arith) (omega arith) (omega arith) in
    record { status = f.status-is; low = omega arith; high = omega arith; leads = tt }

scalar-apart : (s : List ℕ) (g : ℕ) → g < length s → length s ≤ 16384 → LookApart s g (Ok (Scalar (get_or s g 0)))
scalar-apart s g l short =
    let f = told 0 0 g 1 (omega arith) (omega arith) (omega arith) in
    record {
      status = f.status-is;
      low = omega arith;
      high = omega arith;
      leads = (f.rank_is, rw (f.first-is, f.count-is));
    }

-- an array whose block lies in the segment, and the dummy after it
module _ (s : List ℕ) (g : ℕ) (block : SegmentAddress) (size : ℕ) (sized : size_at s block.0 ≡ size) (inside : Inside s block.0 size)
    (fits : block.0 + size + 3 ≤ length s) (short : length s ≤ 16384) where
  abbrev x : ℕ
  x = block.0

  shape_is : shape_part s x ≡ shape_at s x
  shape_is = shape-part s x (omega (arith, inside.sized))

  elements-is : elements_part s x ≡ elements_at s x
  elements-is = elements-part s x (sized ∙ inside.sized) (omega (arith, sized))

  rank_is : length (shape_part s x) ≡ rank_at s x
  unfolding shape_at
  rank_is = ap length shape_is ∙ part_length (rank_at s x) s (x + 2)

  count-is : length (elements_part s x) ≡ product (shape_at s x)
  unfolding elements_at
  count-is = ap length elements-is ∙ part_length (product (shape_at s x)) s (x + 2 + rank_at s x)

  apart : Fields (look_number s g (Ok (Array block))) 0 (rank_at s x) (x + 2 + rank_at s x) (product (shape_at s x))
  apart = rw (rank_is, count-is) (told 0 _ _ _ (omega arith) (omega (arith, inside.sized)) (omega (arith, inside.sized)))

  lengths-led : part s (x + 2 + rank_at s x - rank_at s x) (rank_at s x) ≡ shape_at s x
  unfolding shape_at
  lengths-led = let same : x + 2 + rank_at s x - rank_at s x ≡ x + 2 = omega arith in rw same

  elements-led : part s (x + 2 + rank_at s x) (product (shape_at s x)) ≡ elements_at s x
  unfolding elements_at
  elements-led = refl

  array_apart : LookApart s g (Ok (Array block))
  array_apart = record {
    status = apart.status-is;
    low = omega (arith, apart.rank_is, apart.first-is);
    high = omega (arith, apart.first-is, apart.count-is, inside.sized);
    leads = (
      omega (arith, apart.rank_is, inside.rank),
      rw (apart.first-is, apart.rank_is) lengths-led,
      rw (apart.first-is, apart.count-is) elements-led,
    );
  }

-- ---- what is seen in a global of an accepted segment

undefined-kind : (block : SegmentAddress) → kind_of undefined_word ≡ K.Array block → ⊥
unfolding kind_of unsigned_kind undefined_kind
undefined-kind block e = let z : ◌≡◌ {A = ℕ} 0 1 = cc in omega arith

-- the array that a global's word names
module _ (s regular alternate : List ℕ) (h : Accepted s regular alternate) (block : SegmentAddress) where
  abbrev Named : ℕ → Type 0
  Named a = (size : ℕ) × ArrayIn (blockptr s) h.owned.blocks a size

  names : (w : ℕ) → kind_of w ≡ K.Array block → Direct Named w → Named block.0
  unfolding is_scalar
  names w kind (inl scalar) = absurd (never (rw kind at scalar))
  names w kind (inr (inl none)) = absurd (undefined-kind block (sym (ap kind_of none) ∙ kind))
  names w kind (inr (inr array)) =
      let same : K.Array block ≡ K.Array (segment (address w)) = sym kind ∙ ap kind_of (array_of w array.0) ∙ array_kind_lem (address w) (omega arith) in
      let at : block.0 ≡ address w = cc in
      rw at array.1

module _ (s regular alternate : List ℕ) (g : ℕ) where
  module _ (h : Accepted s regular alternate) (low : 8 ≤ g) (high : g < blockptr s) where
    array_seen : (block : SegmentAddress) → kind_of (get_or s g 0) ≡ K.Array block → LookApart s g (Ok (Array block))
    array_seen block e =
        let n = names s regular alternate h block (get_or s g 0) e (h.globals g low high) in
        let place = array-place h.owned block.0 n.0 n.1 in
        let counted = array-counted s (blockptr s) false h.owned.blocks block.0 n.0 h.owned.heap.walk (omega (arith, h.owned.heap.top, place)) n.1 in
        array_apart s g block n.0 counted.1 (h.owned.inside block.0 n.0 n.1) (omega (arith, place)) h.longest

    seen : (k : Kind) → kind_of (get_or s g 0) ≡ k → LookApart s g (seen_as (get_or s g 0) k)
    seen (K.Scalar k) e = scalar-apart s g (omega (arith, h.head.room, h.head.top)) h.longest
    seen (K.Array block) e = array_seen block e
    seen (K.Indirect t) e = refused-apart s g 17
    seen K.Undefined e = refused-apart s g 22
    seen K.Invalid e = refused-apart s g 17

  global-seen : (b : Bool) → is_global s g ≡ b → Accepted s regular alternate
      → LookApart s g (cond b (seen_as (get_or s g 0) (kind_of (get_or s g 0))) (Err 21))
  unfolding is_global
  global-seen true k h =
      let r = both (leb 8 g) (ltb g (blockptr s)) k in seen h (leb-true _ _ r.0) (ltb-true _ _ r.1) (kind_of (get_or s g 0)) refl
  global-seen false k h = refused-apart s g 21

  looks : LookApart s g (looked s regular alternate g)
  unfolding looked
  looks =
      by-eq (refusal s regular alternate) 0
      (λ h. rw (eq-eqb _ _ h) (global-seen (is_global s g) refl (structure.sound s regular alternate h)))
      (λ h. rw (ne_eqb _ _ h) (refused-apart s g (refusal s regular alternate)))

pub apart-theorem : Apart
apart-theorem = record { runs = runs; replays = replays; looks = looks }
