-- A word pushed, and a variable loaded that holds a scalar or an array, or refers to one that does.
use Rattle.std.specs.Prelude.{Ok}
use Prim.Native.Nat.{ℕ, ◌+◌, ◌-◌, ◌≤◌}
use mathlib.Core.Path.{◌≡◌, refl, sym, ap, ◌∙◌}
use mathlib.Core.Bool.{Bool, true, false}
use mathlib.Core.List.{List, [], ◌∷◌}
use lib.Dec.{ltb}
use lib.ListN.{length, get_or}
use borrow.Author.Tests.{le-ltb}
use Rattle.descriptor.specs.declared.Kind.{Kind}
use Rattle.descriptor.specs.declared.Kind.TheVariants as K
use Rattle.descriptor.specs.declared.Target.{Target}
use Rattle.descriptor.specs.Fields.{is_array}
use Rattle.descriptor.specs.Kinds.{kind_of, is_scalar}
use Rattle.segment.specs.State.{sbase, ltop}
use Rattle.storage.proofs.Counts.{share_other}
use Rattle.manual.specs.OrTrap.{OrTrap, gives, stop_if}
use Rattle.manual.specs.Seen.{Variable, followed}
use Rattle.manual.specs.Loads.{is_undefined}
use Rattle.manual.specs.Effects.{Source, variable, word, replaces, jumps, Plan}
use Rattle.manual.specs.Loads as plan
use Rattle.effects.specs.Sources.{held_at}
use Rattle.effects.specs.Seen.{read, seen}
use Rattle.effects.specs.Perform.{replace, perform}
use Rattle.operands.proofs.Seen.{room-seen}
use Rattle.effects.specs.declared.Outcome.TheVariants.{Finished}
use Rattle.effects_code.specs.Done.{replace_shared}
use Rattle.effects.specs.Carried.{did, carry}
use Rattle.effects_code.proofs.Carrying.{replace-variable}
use Rattle.fast_path.specs.Answers.{DoneOrKept}
use Rattle.fast_path.specs.Naming.{variable_at, Stands}
use Rattle.fast_path.proofs.Answers.{went-alike}
use Rattle.fast_path.proofs.Words.{scalar-no-array, itself, scalar-held, scalar-referred, scalar-defined, array-held, array-referred, array-defined, refers}

-- How many words the stack can still take.
abbrev room : List ℕ → ℕ
room s = length s - (sbase s + ltop s + 1)

module _ (s : List ℕ) (next : ℕ) where
  abbrev pushed : Source → Plan
  pushed source = plan.push (seen s) next source

  pub word-pushed : (w : ℕ) {x u : List ℕ} → 1 ≤ room s → x ≡ replace s 0 (word w) → u ≡ perform x (jumps next) → did (Ok Finished) u ≡ carry s (pushed (word w))
  word-pushed w some placed jumped =
      ap (did (Ok Finished)) (jumped ∙ ap (λ (v : List ℕ). perform v (jumps next)) placed)
      ∙ sym (rw (room-seen s, le-ltb (room s) 1 some))

module _ (s : List ℕ) (next : ℕ) (t : Target) where
  pub array-pushed : {w : ℕ} {x u : List ℕ} → w ≡ held_at s t → 1 ≤ room s → x ≡ replace_shared s 0 w → u ≡ perform x (jumps next) → did (Ok Finished) u ≡ carry s (pushed s next (variable t))
  array-pushed held some placed jumped =
      ap (did (Ok Finished)) (jumped ∙ ap (λ (v : List ℕ). perform v (jumps next)) (placed ∙ ap (replace_shared s 0) held ∙ replace-variable s 0 t))
      ∙ sym (rw (room-seen s, le-ltb (room s) 1 some))

  -- A scalar is pushed as its word.
  module _ {w : ℕ} (held : w ≡ held_at s t) (scalar : is_scalar w ≡ true) where
    scalar-there : is_scalar (held_at s t) ≡ true
    scalar-there = ap is_scalar (sym held) ∙ scalar

    as-word : replace s 0 (word w) ≡ replace s 0 (variable t)
    unfolding replace
    as-word = rw (held, share_other s (held_at s t) (scalar-no-array (held_at s t) scalar-there))

    held-pushed : carry s (pushed s next (word w)) ≡ carry s (pushed s next (variable t))
    held-pushed = by-room (ltb (seen s).room 1)
      where
        by-room : (full : Bool) → carry s (stop_if full 1 1 (gives (replaces 0 (word w) ∷ jumps next ∷ []))) ≡ carry s (stop_if full 1 1 (gives (replaces 0 (variable t) ∷ jumps next ∷ [])))
        by-room true = refl
        by-room false = ap (λ (u : List ℕ). did (Ok Finished) (perform u (jumps next))) as-word

  -- What a variable holds is loaded, where it is that variable that was named or referred to.
  module _ {resolved : OrTrap Variable} {r : Bool} {u : List ℕ} where
    loaded : resolved ≡ itself s t → is_undefined (read s (held_at s t)) ≡ false → DoneOrKept s (pushed s next (variable t)) r u → DoneOrKept s (plan.load (seen s) next resolved) r u
    unfolding plan.load
    loaded found defined answer = went-alike answer (rw (found, defined))

    scalar-found : {w : ℕ} → w ≡ held_at s t → is_scalar w ≡ true → (is_scalar (held_at s t) ≡ true → resolved ≡ itself s t) → DoneOrKept s (pushed s next (word w)) r u → DoneOrKept s (plan.load (seen s) next resolved) r u
    scalar-found held scalar found answer =
        let there = scalar-there held scalar in
        loaded (found there) (scalar-defined s t there) (went-alike answer (held-pushed held scalar))

    array-found : {w : ℕ} → w ≡ held_at s t → is_array w ≡ true → (is_array (held_at s t) ≡ true → resolved ≡ itself s t) → DoneOrKept s (pushed s next (variable t)) r u → DoneOrKept s (plan.load (seen s) next resolved) r u
    array-found held array found answer =
        let there : is_array (held_at s t) ≡ true = ap is_array (sym held) ∙ array in
        loaded (found there) (array-defined s t there) answer

-- ---- the variable that was named

module _ (s : List ℕ) (next : ℕ) {resolved : OrTrap Variable} {t : Target} {i : ℕ} (stands : Stands s resolved t i) {w : ℕ} (held : w ≡ get_or s i 0) where
  there : w ≡ held_at s t
  there = held ∙ ap (λ (j : ℕ). get_or s j 0) stands.place

  pub scalar-loaded : {r : Bool} {u : List ℕ} → is_scalar w ≡ true → DoneOrKept s (pushed s next (word w)) r u → DoneOrKept s (plan.load (seen s) next resolved) r u
  scalar-loaded scalar answer = scalar-found s next t there scalar (λ is. stands.resolves ∙ scalar-held s t is) answer

  pub array-loaded : {r : Bool} {u : List ℕ} → is_array w ≡ true → ((v : Target) → w ≡ held_at s v → DoneOrKept s (pushed s next (variable v)) r u) → DoneOrKept s (plan.load (seen s) next resolved) r u
  array-loaded array answer = array-found s next t there array (λ is. stands.resolves ∙ array-held s t is) (answer t there)

  pub referred-loaded : {r : Bool} {u : List ℕ} → ((v : Target) → w ≡ held_at s v → DoneOrKept s (plan.load (seen s) next (variable_at s v)) r u) → DoneOrKept s (plan.load (seen s) next resolved) r u
  referred-loaded answer = went-alike (answer t there) (ap (λ (v : OrTrap Variable). carry s (plan.load (seen s) next v)) (sym stands.resolves))

-- ---- the variable that it refers to

module _ (s : List ℕ) (next : ℕ) (t v : Target) {w x : ℕ} {kind : Kind} (held : w ≡ held_at s t) (told : kind ≡ kind_of w) (refers_to : kind ≡ K.Indirect v) (holds : x ≡ held_at s v) where
  leads : variable_at s t ≡ followed v (read s (held_at s v))
  leads = refers s t v (ap kind_of (sym held) ∙ sym told ∙ refers_to)

  pub scalar-followed : {r : Bool} {u : List ℕ} → is_scalar x ≡ true → DoneOrKept s (pushed s next (word x)) r u → DoneOrKept s (plan.load (seen s) next (variable_at s t)) r u
  scalar-followed scalar answer = scalar-found s next v holds scalar (λ is. leads ∙ scalar-referred s v is) answer

  pub array-followed : {r : Bool} {u : List ℕ} → is_array x ≡ true → ((y : Target) → x ≡ held_at s y → DoneOrKept s (pushed s next (variable y)) r u) → DoneOrKept s (plan.load (seen s) next (variable_at s t)) r u
  array-followed array answer = array-found s next v holds array (λ is. leads ∙ array-referred s v is) (answer v holds)
