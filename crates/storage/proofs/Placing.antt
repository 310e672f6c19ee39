-- An array placed, by what its request found.
use Rattle.std.proofs.Common.{◌≡◌, ℕ, ◌^◌, ◌<◌, List, length, sym, ap, ◌∙◌, arith, eq-eqb, ne_eqb}
use Rattle.descriptor.specs.declared.address.SegmentAddress.{SegmentAddress}
use Rattle.segment.specs.Blocks.{need}
use Rattle.std.specs.Prelude.{Some, None}
use Rattle.storage.specs.Request.{find, give, given, request, request_at}
use Rattle.storage.specs.Arrays.{fill, place, place_at}
use Rattle.storage.specs.Found.{found}
use Rattle.storage.proofs.Requests.{full-zero, at_some, request-kept, request-small, request-some, request_at-none, found_none, found_some}

module _ (s shape elements : List ℕ) where
  pub place-full : found (request_at s (need shape elements)) ≡ None → request s (need shape elements) ≡ place s shape elements
  unfolding place place_at
  place-full full =
      let none = full-zero _ full in
      simp (eq-eqb _ _ none) (request-kept s (need shape elements) none)

  module _ (block : SegmentAddress) (at : found (request_at s (need shape elements)) ≡ Some block) where
    pub place_at_lem : fill (request s (need shape elements)) block.0 shape elements ≡ place s shape elements
    unfolding place place_at
    place_at_lem =
        let some = at_some _ block at in
        rw (← some.1) (simp (ne_eqb _ _ some.0))

    pub place-small : length shape < 2 ^ 16
    place-small = omega (arith, request-small s (need shape elements) (at_some _ block at).0)

-- the same by the free block that the search found, and where the block given starts
module _ (s shape elements : List ℕ) (size f : ℕ) (sized : size ≡ need shape elements) (first : f ≡ find s size) where
  found_at : find s (need shape elements) ≡ f
  found_at = sym (first ∙ ap (find s) sized)

  pub place_none : f ≡ 0 → (None ≡ found (place_at s shape elements)) × (s ≡ place s shape elements)
  unfolding place place_at
  place_none none =
      let zero : find s (need shape elements) ≡ 0 = found_at ∙ none in
      (found_none s (need shape elements) zero, simp (eq-eqb _ _ (request_at-none s (need shape elements) zero)))

  pub place-given : (f ≡ 0 → ⊥) → (block : SegmentAddress) → block.0 ≡ given s f size → {t : List ℕ} → t ≡ fill (give s f size) block.0 shape elements
      → (Some block ≡ found (place_at s shape elements)) × (t ≡ place s shape elements)
  unfolding place_at
  place-given some block at {t} filled =
      let found-some-at : find s (need shape elements) ≡ 0 → ⊥ = λ zero. some (sym found_at ∙ zero) in
      let answer : Some block ≡ found (request_at s (need shape elements)) = found_some s (need shape elements) block found-some-at (at ∙ rw (found_at, sized)) in
      let words : give s f size ≡ request s (need shape elements) = sym (request-some s (need shape elements) found-some-at ∙ rw (found_at, sized)) in
      (answer, filled ∙ ap (λ (w : List ℕ). fill w block.0 shape elements) words ∙ place_at_lem s shape elements block (sym answer))
