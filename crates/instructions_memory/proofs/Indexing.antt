-- ASSIGN_INDEXED by the ways of the code.
use Rattle.std.specs.Prelude.{Some, None, Result, Ok, Err}
use Rattle.trap.specs.Trap.{trap_of}
use Rattle.trap.specs.declared.Trap.{Trap}
use Prim.Native.Nat.{ℕ, ◌+◌, ◌≤◌, ◌<◌}
use mathlib.Core.Path.{◌≡◌, sym, ap, ◌∙◌}
use mathlib.Core.Bool.{Bool, true, not, ◌||◌}
use mathlib.Core.List.{List, [], ◌∷◌}
use native.Mathlib.Nat.{zero-add}
use lib.Dec.{eqb}
use lib.ListN.{length, take, get_or}
use borrow.Author.Tests.{lt-ltb, le-ltb}
use Rattle.descriptor.specs.declared.address.SegmentAddress.{SegmentAddress}
use Rattle.descriptor.specs.declared.Target.{Target}
use Rattle.segment.specs.State.{flags, iorg}
use Rattle.segment.specs.Cells.{Cell}
use Rattle.manual.specs.OrTrap.{OrTrap, gives, trap, and_then, stop_if}
use Rattle.manual.specs.Effects.{stores_element, jumps, Plan}
use Rattle.manual.specs.Seen.{at}
use Rattle.manual.specs.Values as values
use Rattle.manual.specs.Scalars.{operands, is_scalar_cell, any_cell, cell_word, scalar_words}
use Rattle.manual.specs.Memory as plan
use Rattle.effects.specs.Sources.{held_at}
use Rattle.effects.specs.Seen.{read, temporaries, seen}
use Rattle.operands.specs.declared.reading.Value.{Value}
use Rattle.operands.specs.declared.reading.Value.TheVariants.{Scalar, Array}
use Rattle.operands.specs.Operands.{operand_of, held}
use Rattle.operands.specs.Taken.{is_foreign_to, taken_of, taken}
use Rattle.operands.proofs.Seen.{origin-seen, count-seen}
use Rattle.operands.proofs.ValuesSeen.{value-seen}
use Rattle.operands.proofs.Subscripts.{taken-plan, words-before, word-last}
use Rattle.effects.specs.Carried.{did, carry}
use Rattle.instructions_memory.specs.Indexed.{Indexed}

module _ (s : List ℕ) (next rank : ℕ) (t : Target) where
  -- The operands that are scalars: the subscripts, and the value after them.
  abbrev cells : List Cell
  cells = operands (seen s) 0 (rank + 1)

  -- With the subscripts and the value, for an array of these lengths: the element's place, or a trap; and the element stored.
  abbrev pub sought : ℕ → List ℕ → List ℕ → OrTrap ℕ
  sought origin subscripts lengths = stop_if (not (eqb rank (length lengths))) 9 1 (values.ravel_place origin subscripts lengths)

  abbrev pub stored : ℕ → ℕ → Plan
  stored x k = gives (stores_element t k x (rank + 1) ∷ jumps next ∷ [])

  abbrev pub element_in : List ℕ → List ℕ → Plan
  element_in lengths words = and_then (sought (iorg (flags s)) (take rank words) lengths) (stored (get_or words rank 0))

  same-element : (lengths : List ℕ) → element_in lengths (scalar_words cells) ≡ and_then (sought (seen s).origin (scalar_words (operands (seen s) 0 rank)) lengths) (stored (cell_word ((seen s).operand rank)))
  same-element lengths =
      ap (λ (words : List ℕ). and_then (sought (iorg (flags s)) words lengths) (stored (get_or (scalar_words cells) rank 0))) (words-before (seen s) 0 rank)
      ∙ ap (λ (x : ℕ). and_then (sought (iorg (flags s)) (scalar_words (operands (seen s) 0 rank)) lengths) (stored x)) (word-last (seen s) 0 rank ∙ ap (λ (i : ℕ). cell_word ((seen s).operand i)) (zero-add rank))
      ∙ ap (λ (origin : ℕ). and_then (sought origin (scalar_words (operands (seen s) 0 rank)) lengths) (stored (cell_word ((seen s).operand rank)))) (sym (origin-seen s))

  module _ (w : ℕ) where
    abbrev pub indexed : Plan
    indexed = plan.assign_indexed (seen s) next rank (gives (at t (read s w)))

    pub indexed-missing : temporaries s < rank + 1 → did (Err (trap_of 3 4)) s ≡ carry s indexed
    unfolding plan.assign_indexed
    indexed-missing few = rw (count-seen s, lt-ltb (temporaries s) (rank + 1) few)

    module _ (enough : rank + 1 ≤ temporaries s) where
      pub indexed-other : operand_of s w ≡ None → did (Err (trap_of 3 5)) s ≡ carry s indexed
      unfolding plan.assign_indexed
      indexed-other e = rw (count-seen s, le-ltb (temporaries s) (rank + 1) enough, value-seen s w, e)

      module _ (v : Value) (is : operand_of s w ≡ Some v) where
        abbrev single : Bool
        single = eqb (values.rank (held s v)) 0

        pub judged : and_then (taken_of true cells) (λ words. stop_if single 5 0 (element_in (held s v).shape words)) ≡ indexed
        unfolding plan.assign_indexed
        judged =
            taken-plan true single cells (element_in (held s v).shape)
            ∙ ap (λ (p : Plan). stop_if (any_cell (is_foreign_to true) cells) 3 5 (stop_if (single || any_cell (λ c. not (is_scalar_cell c)) cells) 5 0 p)) (same-element (held s v).shape)
            ∙ rw (count-seen s, le-ltb (temporaries s) (rank + 1) enough, value-seen s w, is)

        -- As its operands are taken.
        module _ (r : Result Unit Trap) (words : List ℕ) where
          not-taken : (t : Trap) → taken_of true cells ≡ trap t.class t.number → did (Err t) s ≡ carry s indexed
          not-taken t e = ap (carry s) (rw e at judged)

          pub indexed-trapped : {t : Trap} → r ≡ Err t → taken r words ≡ taken_of true cells → did (Err t) s ≡ carry s indexed
          indexed-trapped {t} is e = not-taken t (sym e ∙ rw is)

          all-scalars : {done : Unit} → r ≡ Ok done → taken r words ≡ taken_of true cells → taken_of true cells ≡ gives words
          all-scalars all e = sym e ∙ rw all

          pub indexed-scalar : {done : Unit} (x : ℕ) → r ≡ Ok done → taken r words ≡ taken_of true cells → v ≡ Scalar x → did (Err (trap_of 5 0)) s ≡ carry s indexed
          indexed-scalar x all e scalar = ap (carry s) (rw (all-scalars all e, scalar) at judged)

        pub indexed-array : (r : Result Unit Trap) (words : List ℕ) {done : Unit} (block : SegmentAddress) → r ≡ Ok done → taken r (take (rank + 1) words) ≡ taken_of true cells → v ≡ Array block → w ≡ held_at s t → Indexed s rank t block words
        indexed-array r words block all e array held =
            record {
              array = rw (← held, ← array) is;
              enough = enough;
              scalars = all-scalars r (take (rank + 1) words) all e;
            }

    pub same-variable : w ≡ held_at s t → carry s (plan.assign_indexed (seen s) next rank (gives (at t (read s (held_at s t))))) ≡ carry s indexed
    same-variable e = rw e
