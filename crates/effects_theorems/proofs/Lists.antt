-- Effects one after the other, and when storage is full for them.
use Prim.Native.Nat.{ℕ, ◌+◌, ◌<◌, ◌≤◌}
use mathlib.Core.Path.{◌≡◌, refl, sym, ◌∙◌, ap}
use mathlib.Core.Bool.{true, false, true≢false}
use mathlib.Core.Logic.{◌↔◌, ◌≢◌, ◌⊎◌, inl, inr, ⊎_elim}
use mathlib.Core.List.{List, [], ◌∷◌}
use native.Mathlib.Omega.{arith}
use lib.Dec.{ltb, eqb}
use borrow.Author.Tests.{ltb-true, eqb-true, eqb-false, eq-eqb, ne_eqb, le-leb, lt-leb}
use Rattle.descriptor.proofs.Truth.{decide}
use Rattle.segment.specs.State.{blockptr}
use Rattle.segment.specs.Blocks.{count_at}
use Rattle.storage.specs.Request.{request_at}
use Rattle.storage.specs.Heap.{Block, free, array, over}
use Rattle.storage_theorems.specs.Words.{HasRoom}
use Rattle.manual.specs.Effects.{Source, variable, operand, word, undefined_value, reference, made, Effect, replaces, discards, swaps, stores, stores_element, enters, leaves, jumps, sets_origin, perform_all}
use Rattle.manual.proofs.Tests.{one_holds, second_holds}
use Rattle.storage_theorems.proofs.Counts.{order}
use Rattle.storage_theorems.proofs.Walks.{over-le}
use Rattle.storage_theorems.proofs.Request.{request-theorem}
use Rattle.effects.specs.Sources.{address_of}
use Rattle.effects.specs.Perform.{block_of, perform, performs, source_need, wanted, none_for, is_full, first_full}
use Rattle.effects.specs.Sound.{Sound}
use Rattle.effects.specs.Fits.{Available, Fits}
use Rattle.effects.specs.Requests.{AllFit, FirstFits, NoneAsks, OneRequest}
use Rattle.effects_theorems.specs.Theorems.{StateKept, PerformedAll, AsksInVain}
use Rattle.effects_theorems.proofs.StateWords.{state-none, state-on}
use Rattle.effects_theorems.proofs.Element.{array-proper}
use Rattle.effects_theorems.proofs.Effects.{x-is, x-small, perform-theorem, kept-theorem}

not_full : (s : List ℕ) (e : Effect) → wanted s e ≡ 0 → is_full s e ≡ false
not_full s e h = rw (eq-eqb (wanted s e) 0 h)

-- each fits the segment that it meets, and is served there
abbrev pub AllServed : List ℕ → List Effect → Type 0
AllServed s [] = Unit {0}
AllServed s (e ∷ es) = Fits s e × (is_full s e ≡ false) × AllServed (perform s e) es

plain-served : (s : List ℕ) (es : List Effect) → AllFit s es → NoneAsks es → AllServed s es
plain-served s [] h k = tt
plain-served s (e ∷ es) h k = (h.0, not_full s e (k.0 s), plain-served (perform s e) es h.1 k.1)

pub all-served : (s : List ℕ) (es : List Effect) → AllFit s es → OneRequest es → first_full s es ≡ false → AllServed s es
all-served s [] h k f = tt
all-served s (e ∷ es) h k f = (h.0, f, plain-served (perform s e) es h.1 k)

-- one after the other
in-turn : (s : List ℕ) → Sound s → (es : List Effect) → AllServed s es → PerformedAll s es
in-turn s g [] h = record { sound = g; seen = refl }
in-turn s g (e ∷ es) h =
    let p = perform-theorem s g e h.0 h.1 in
    let q = in-turn (perform s e) p.sound es h.2 in
    record { sound = q.sound; seen = q.seen ∙ ap (perform_all es) p.seen }

kept-in-turn : (s : List ℕ) → Sound s → (es : List Effect) → AllServed s es → StateKept s (performs s es)
kept-in-turn s g [] h = state-none s
kept-in-turn s g (e ∷ es) h =
    state-on (kept-theorem s g e h.0 h.1) (kept-in-turn (perform s e) (perform-theorem s g e h.0 h.1).sound es h.2)

module _ (s : List ℕ) (g : Sound s) (es : List Effect) (fit : AllFit s es) (once : OneRequest es) (room : first_full s es ≡ false) where
  pub performs-theorem : PerformedAll s es
  performs-theorem = in-turn s g es (all-served s es fit once room)

  pub all-kept-theorem : StateKept s (performs s es)
  all-kept-theorem = kept-in-turn s g es (all-served s es fit once room)

-- what is wanted is nothing, or a block
source-size : (s : List ℕ) (source : Source) → Available s source → (source_need source ≡ 0) ⊎ (3 ≤ source_need source)
source-size s (variable t) h = inl refl
source-size s (operand i) h = inl refl
source-size s (word w) h = inl refl
source-size s undefined_value h = inl refl
source-size s (reference t) h = inl refl
source-size s (made shape ravel) h = inr (omega (arith, h.rank))

wanted-size : (s : List ℕ) → Sound s → (e : Effect) → Fits s e → (wanted s e ≡ 0) ⊎ (3 ≤ wanted s e)
wanted-size s g (replaces n source) h = source-size s source h.1
wanted-size s g (discards n) h = inl refl
wanted-size s g swaps h = inl refl
wanted-size s g (stores t source) h = source-size s source h.1
wanted-size s g (stores_element t place w n) h = ⊎_elim many one (order 2 (count_at s (block_of s (address_of s t))))
  where
    many : 2 ≤ count_at s (block_of s (address_of s t)) → (wanted s (stores_element t place w n) ≡ 0) ⊎ (3 ≤ wanted s (stores_element t place w n))
    many l =
        let p = array-proper s g t h.1.there (block_of s (address_of s t)) (x-is s g t place w n h.1) (x-small s g t place w n h.1) in
        inr (rw (le-leb 2 (count_at s (block_of s (address_of s t))) l) (omega (arith, p.rank)))

    one : count_at s (block_of s (address_of s t)) < 2 → (wanted s (stores_element t place w n) ≡ 0) ⊎ (3 ≤ wanted s (stores_element t place w n))
    one l = inl (rw (lt-leb 2 (count_at s (block_of s (address_of s t))) l))
wanted-size s g (enters n f) h = inl refl
wanted-size s g (leaves n result) h = inl refl
wanted-size s g (jumps place) h = inl refl
wanted-size s g (sets_origin v) h = inl refl

-- a free block is shorter than the longest segment
room_within : (a : ℕ) (blocks : List Block) (size : ℕ) → HasRoom blocks size → a + size ≤ over a blocks
room_within a [] size h = elim h [ ]
room_within a (free n ∷ blocks) size (inl h) = omega (arith, h, over-le (a + n) blocks)
room_within a (free n ∷ blocks) size (inr h) = omega (arith, room_within (a + n) blocks size h)
room_within a (array n slop ∷ blocks) size h = omega (arith, room_within (a + (n + slop)) blocks size h)

room-short : {s : List ℕ} (g : Sound s) (size : ℕ) → HasRoom g.own.blocks size → size ≤ 16384
room-short {s} g size h = omega (arith, room_within (blockptr s) g.own.blocks size h, g.own.heap.top, g.own.heap.room, g.own.heap.short)

-- an effect is full exactly where it asks in vain
module _ (s : List ℕ) (g : Sound s) (e : Effect) (h : Fits s e) where
  full-vain : is_full s e ≡ true → (wanted s e ≢ 0) × (HasRoom g.own.blocks (wanted s e) → ⊥)
  full-vain f = ⊎_elim none some (wanted-size s g e h)
    where
      none : wanted s e ≡ 0 → (wanted s e ≢ 0) × (HasRoom g.own.blocks (wanted s e) → ⊥)
      none z = absurd (true≢false (sym f ∙ not_full s e z))

      some : 3 ≤ wanted s e → (wanted s e ≢ 0) × (HasRoom g.own.blocks (wanted s e) → ⊥)
      some l =
          let d : wanted s e ≢ 0 = omega arith in
          let z : none_for s (wanted s e) ≡ true = rw (ne_eqb (wanted s e) 0 d) at f in (
            d,
            λ r. ⊎_elim (λ q. omega (arith, ltb-true 16384 (wanted s e) q, room-short g (wanted s e) r))
                (λ q. (request-theorem (wanted s e) g.own.heap l).found.1 r (eqb-true (request_at s (wanted s e)) 0 q))
                (one_holds (ltb 16384 (wanted s e)) (eqb (request_at s (wanted s e)) 0) z),
          )

  vain-full : wanted s e ≢ 0 → (HasRoom g.own.blocks (wanted s e) → ⊥) → is_full s e ≡ true
  vain-full d v = ⊎_elim (λ z. absurd (d z)) some (wanted-size s g e h)
    where
      some : 3 ≤ wanted s e → is_full s e ≡ true
      some l =
          ⊎_elim (λ (q : eqb (request_at s (wanted s e)) 0 ≡ true). rw (ne_eqb (wanted s e) 0 d)
          (second_holds (ltb 16384 (wanted s e)) (eqb (request_at s (wanted s e)) 0) q))
          (λ (q : eqb (request_at s (wanted s e)) 0 ≡ false). absurd (v
          ((request-theorem (wanted s e) g.own.heap l).found.0 (eqb-false (request_at s (wanted s e)) 0 q))))
          (decide (eqb (request_at s (wanted s e)) 0))

pub full-theorem : (s : List ℕ) (g : Sound s) (es : List Effect) → FirstFits s es → (first_full s es ≡ true) ↔ AsksInVain s g.own.blocks es
full-theorem s g [] h = (λ f. absurd (true≢false (sym f)), λ f. absurd f)
full-theorem s g (e ∷ es) h = (full-vain s g e h, λ f. vain-full s g e h f.0 f.1)
