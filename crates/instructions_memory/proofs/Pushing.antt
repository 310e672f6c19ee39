-- Instructions that push, by the ways of the code: a trap, no room, or the word that the result is.
use Rattle.std.specs.Prelude.{Result, Ok, Err}
use Rattle.trap.specs.Trap.{trap_of}
use Rattle.trap.specs.declared.Trap.{Trap}
use Prim.Native.Nat.{ℕ, ◌+◌, ◌-◌, ◌≤◌, ◌<◌}
use mathlib.Core.Path.{◌≡◌, refl, ap, ◌∙◌}
use mathlib.Core.Bool.{Bool, true, false, cond, not}
use mathlib.Core.List.{List, [], ◌∷◌}
use lib.ListN.{length}
use borrow.Author.Tests.{lt-ltb, le-ltb}
use lib.Dec.{ltb}
use Rattle.descriptor.specs.declared.Target.{Target}
use Rattle.descriptor.specs.Fields.{undefined_word}
use Rattle.descriptor.specs.Kinds.{is_scalar}
use Rattle.segment.specs.State.{sbase, ltop, flags, iorg}
use Rattle.manual.specs.OrTrap.{gives, stop_if}
use Rattle.manual.specs.Effects.{Source, variable, word, undefined_value, reference, made, Effect, replaces, jumps, Plan}
use Rattle.manual.specs.Seen.{at}
use Rattle.manual.specs.Values.{any}
use Rattle.manual.specs.Loads as plan
use Rattle.effects.specs.Sources.{held_at, reference_word}
use Rattle.effects.specs.Seen.{read, seen}
use Rattle.effects.specs.Perform.{replace, perform}
use Rattle.operands.specs.declared.variables.Variable.{Variable}
use Rattle.operands.specs.Operands.{is_undefined_word}
use Rattle.operands.specs.Variables.{variable_seen}
use Rattle.operands.proofs.Seen.{origin-seen, room-seen}
use Rattle.operands.proofs.ValuesSeen.{undefined-seen}
use Rattle.effects.specs.declared.Outcome.TheVariants.{Finished}
use Rattle.effects_code.specs.Done.{replace_shared, full_or_done, attempt}
use Rattle.effects.specs.Carried.{did, carry}
use Rattle.effects_code.proofs.Carrying.{carry-refused, carry-served}

abbrev any_other : List ℕ → Bool
any_other ws = any (λ w. not (is_scalar w)) ws

-- How many words the stack can still take.
abbrev room : List ℕ → ℕ
room s = length s - (sbase s + ltop s + 1)

module _ (s : List ℕ) (next : ℕ) where
  abbrev pushed : Source → Plan
  pushed source = plan.push (seen s) next source

  pub push-full : (source : Source) → room s < 1 → did (Err (trap_of 1 1)) s ≡ carry s (pushed source)
  push-full source full = rw (room-seen s, lt-ltb (room s) 1 full)

  pub word-pushed : (w : ℕ) → 1 ≤ room s → did (Ok Finished) (perform (replace s 0 (word w)) (jumps next)) ≡ carry s (pushed (word w))
  word-pushed w some = rw (room-seen s, le-ltb (room s) 1 some)

  -- A word pushed that is another source's.
  alike : (a b : Source) → carry s (gives (replaces 0 a ∷ jumps next ∷ [])) ≡ carry s (gives (replaces 0 b ∷ jumps next ∷ [])) → carry s (pushed a) ≡ carry s (pushed b)
  alike a b same = by-room (ltb (seen s).room 1)
    where
      by-room : (full : Bool) → carry s (stop_if full 1 1 (gives (replaces 0 a ∷ jumps next ∷ []))) ≡ carry s (stop_if full 1 1 (gives (replaces 0 b ∷ jumps next ∷ [])))
      by-room true = refl
      by-room false = same

  pub undefined-pushed : carry s (pushed (word undefined_word)) ≡ carry s (plan.push_undefined (seen s) next)
  unfolding plan.push_undefined replace
  undefined-pushed = alike (word undefined_word) undefined_value refl

  pub reference-pushed : (v : Result Variable Trap) (x : Variable) → v ≡ Ok x → carry s (pushed (word (reference_word x.target))) ≡ carry s (plan.refer_to (seen s) next (variable_seen s v))
  unfolding plan.refer_to replace
  reference-pushed v x e = rw e (alike (word (reference_word x.target)) (reference x.target) refl)

  pub origin-pushed : carry s (pushed (word (iorg (flags s)))) ≡ carry s (plan.get_origin (seen s) next)
  unfolding plan.get_origin
  origin-pushed = rw (origin-seen s)

  pub tested : (v : Result Variable Trap) (x : Variable) → v ≡ Ok x → carry s (pushed (word (cond (is_undefined_word x.held) 0 1))) ≡ carry s (plan.test_defined (seen s) next (variable_seen s v))
  unfolding plan.test_defined
  tested v x e = rw (e, undefined-seen s x.held)

  pub scalar-pushed : (w : ℕ) → is_scalar w ≡ true → carry s (pushed (word w)) ≡ carry s (plan.constant_scalar (seen s) next w)
  unfolding plan.constant_scalar
  scalar-pushed w scalar = rw scalar

  pub no-scalar : (w : ℕ) → is_scalar w ≡ false → did (Err (trap_of 3 5)) s ≡ carry s (plan.constant_scalar (seen s) next w)
  unfolding plan.constant_scalar
  no-scalar w other = rw other

  -- The word that the variable holds.
  module _ (t : Target) (w : ℕ) where
    abbrev loaded : Plan
    loaded = plan.load (seen s) next (gives (at t (read s w)))

    pub load-undefined : is_undefined_word w ≡ true → did (Err (trap_of 10 0)) s ≡ carry s loaded
    unfolding plan.load
    load-undefined none = rw (undefined-seen s w, none)

    pub load_full : is_undefined_word w ≡ false → room s < 1 → did (Err (trap_of 1 1)) s ≡ carry s loaded
    unfolding plan.load
    load_full some full = rw (undefined-seen s w, some) (push-full (variable t) full)

    pub variable-loaded : w ≡ held_at s t → is_undefined_word w ≡ false → 1 ≤ room s → did (Ok Finished) (perform (replace_shared s 0 w) (jumps next)) ≡ carry s loaded
    unfolding plan.load replace_shared replace
    variable-loaded held some enough = rw (undefined-seen s w, some, held, room-seen s, le-ltb (room s) 1 enough)

  -- A new vector.
  module _ (ws : List ℕ) where
    abbrev vector : Effect
    vector = replaces 0 (made (length ws ∷ []) ws)

    abbrev constant : Plan
    constant = plan.constant_vector (seen s) next ws

    pub vector-other : any_other ws ≡ true → did (Err (trap_of 3 5)) s ≡ carry s constant
    unfolding plan.constant_vector
    vector-other other = rw other

    module _ (scalars : any_other ws ≡ false) where
      pub vector-full : room s < 1 → did (Err (trap_of 1 1)) s ≡ carry s constant
      unfolding plan.constant_vector
      vector-full full = rw scalars (push-full (made (length ws ∷ []) ws) full)

      module _ (some : 1 ≤ room s) where
        planned : gives (vector ∷ jumps next ∷ []) ≡ constant
        unfolding plan.constant_vector
        planned = rw (scalars, room-seen s, le-ltb (room s) 1 some)

        pub vector-refused : {t : Trap} → Err t ≡ full_or_done s vector → did (Err t) (attempt s vector) ≡ carry s constant
        vector-refused full = carry-refused s vector (jumps next ∷ []) full ∙ ap (carry s) planned

        pub vector-pushed : {done : Unit} → Ok done ≡ full_or_done s vector → did (Ok Finished) (perform (attempt s vector) (jumps next)) ≡ carry s constant
        vector-pushed done = carry-served s vector (jumps next ∷ []) done ∙ ap (carry s) planned
