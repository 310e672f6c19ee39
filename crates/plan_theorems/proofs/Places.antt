-- Subscripts that are judged lead to an element that is there, also in the array that a variable holds.
use Prim.Native.Nat.{ℕ, zero, suc, ◌<◌}
use mathlib.Core.Path.{◌≡◌, refl, sym, ◌∙◌, ap, subst}
use mathlib.Core.Bool.{not}
use mathlib.Core.List.{List}
use native.Mathlib.Omega.{arith}
use lib.Dec.{eqb}
use lib.ListN.{length}
use borrow.Author.Tests.{eqb-true, eqb-false, not-false}
use Rattle.descriptor.specs.Fields.{is_character}
use Rattle.scalar.specs.Reading.{whole_of}
use Rattle.segment.specs.Blocks.{product}
use Rattle.segment.specs.Cells.{Cell, undefined, indirect, value, invalid}
use Rattle.instruction.specs.declared.Address.{Address}
use Rattle.manual.specs.Values.{Value, rank as rank_of, any, is_fraction, in_ranges, ravel_place}
use Rattle.manual.specs.Seen.{Seen, Variable}
use Rattle.manual.specs.Scalars.{value_of, operands, scalar_words, subscripted}
use Rattle.manual.specs.Instructions.{Running}
use Rattle.manual.specs.Cases.{Element}
use Rattle.manual.proofs.Elements.{place-below}
use Rattle.effects.specs.Sources.{held_at}
use Rattle.effects.specs.Fits.{HasElement}
use Rattle.effects.specs.Alike.{Resolved}
use Rattle.plan_theorems.proofs.Given.{Given, passed, given}
use Rattle.plan_theorems.proofs.Cells.{cell-array-shape}

judged-below : (origin : ℕ) (ws ls : List ℕ) → length ws ≡ length ls → Given (λ k. k < product ls) (ravel_place origin ws ls)
unfolding ravel_place
judged-below origin ws ls e =
    passed (λ (k : ℕ). k < product ls) (any is_character ws) 7 0 _ (λ c.
    passed (λ (k : ℕ). k < product ls) (any (λ w. is_fraction (whole_of w)) ws) 8 5 _ (λ f.
    passed (λ (k : ℕ). k < product ls) (not (in_ranges origin ws ls)) 9 2 _ (λ r. place-below origin ws ls e (not-false (in_ranges origin ws ls) r))))

operands-length : (seen : Seen) (i n : ℕ) → length (scalar_words (operands seen i n)) ≡ n
operands-length seen i zero = refl
operands-length seen i (suc n) = ap suc (operands-length seen (suc i) n)

subscripted-below : (seen : Seen) (i rank : ℕ) (lengths : List ℕ)
    → Given (λ k. k < product lengths) (subscripted seen.origin rank lengths (operands seen i rank))
subscripted-below seen i rank lengths =
    passed (λ (k : ℕ). k < product lengths) (not (eqb rank (length lengths))) 9 1 _ (λ e.
    judged-below seen.origin (scalar_words (operands seen i rank)) lengths
    (omega (arith, operands-length seen i rank, eqb-true rank (length lengths) (not-false (eqb rank (length lengths)) e))))

-- ---- an element of a variable's array

-- a value comes of a cell that holds it
value-held : (c : Cell) → Given (λ a. c ≡ value a.shape a.ravel) (value_of c)
value-held undefined = tt
value-held (indirect t) = tt
value-held (value shape ravel) = refl
value-held invalid = tt

pub has-element : {s : List ℕ} {f : Running} {v : Seen} {a : Address} {rank : ℕ} {x : Variable} {k : ℕ} → Resolved s x → Element f v a rank x k
    → HasElement s x.place k
has-element {s} {v = v} {rank = rank} {x = x} {k = k} r e =
    let b = e.array in
    let held = given (λ (a : Value). x.held ≡ value a.shape a.ravel) (value_of x.held) b (value-held x.held) e.holds in
    let c = cell-array-shape s (held_at s x.place) b.shape b.ravel (sym r.holds ∙ held) (eqb-false (rank_of b) 0 e.ranked) in
    let l = given (λ (i : ℕ). i < product b.shape) _ k (subscripted-below v 0 rank b.shape) e.there in
    record { there = r.there; holds = c.0; inside = subst (λ (shape : List ℕ). k < product shape) c.1 l }
