-- The search along the ring, and a request, by their ways.
use Rattle.std.proofs.Common.{◌≡◌, ℕ, zero, suc, ◌+◌, ◌-◌, ◌^◌, ◌<◌, ◌≤◌, Bool, true, false, cond, eqb, leb, List, sym, refl, ap, ◌∙◌, arith, eq-eqb, ne_eqb, eqb-true, le-leb, leb-true}
use borrow.Author.Tests.{eqb-false, lt-leb}
use Rattle.descriptor.proofs.Truth.{by_le}
use Rattle.descriptor.specs.Kinds.{segment}
use Rattle.descriptor.specs.declared.address.SegmentAddress.{SegmentAddress}
use Rattle.segment.specs.State.{set_rover}
use Rattle.segment.specs.Blocks.{size_at, next_at}
use Rattle.std.specs.Prelude.{Option, Some, None, IfSome}
use Rattle.storage.specs.Request.{find_from, find, split, given_whole, give, given, request, request_at}
use Rattle.storage.specs.Found.{found}

-- the two answers told apart
pub full-zero : (a : ℕ) → found a ≡ None → a ≡ 0
unfolding found
full-zero a full = by-test (eqb a 0) refl full
  where
    by-test : (b : Bool) → eqb a 0 ≡ b → cond b None (Some (segment a)) ≡ None → a ≡ 0
    by-test true e full = eqb-true a 0 e
    by-test false e full = let never : ◌≡◌ {A = ℕ} 0 1 = cc in omega arith

pub at_some : (a : ℕ) (block : SegmentAddress) → found a ≡ Some block → (a ≡ 0 → ⊥) × (a ≡ block.0)
unfolding found
at_some a block at = by-test (eqb a 0) refl at
  where
    by-test : (b : Bool) → eqb a 0 ≡ b → cond b None (Some (segment a)) ≡ Some block → (a ≡ 0 → ⊥) × (a ≡ block.0)
    by-test true e at = let never : ◌≡◌ {A = ℕ} 0 1 = cc in absurd (omega arith)
    by-test false e at = (eqb-false a 0 e, let same : segment a ≡ block = cc in ap (λ (b : SegmentAddress). b.0) same)

-- where it is none, and what stands before it keeps within 16 bits
pub none_found : (a : ℕ) → a ≡ 0 → None ≡ found a
unfolding found
none_found a none = rw none

pub found-below : (a : ℕ) {r : Option SegmentAddress} → r ≡ found a → a < 2 ^ 16 → IfSome r (λ f. f.0 < 2 ^ 16)
unfolding found
found-below a e below = rw e (by-test (eqb a 0))
  where
    by-test : (b : Bool) → IfSome (cond b None (Some (segment a))) (λ f. f.0 < 2 ^ 16)
    by-test true = tt
    by-test false = below

-- a turn of the search
find_from-turn : (n : ℕ) (s : List ℕ) (size stop at : ℕ) → 0 < n
    → find_from n s size stop at ≡ cond (leb size (size_at s at)) at (cond (eqb (next_at s at) stop) 0 (find_from (n - 1) s size stop (next_at s at)))
unfolding find_from
find_from-turn zero s size stop at more = absurd (omega arith)
find_from-turn (suc n) s size stop at more = let e : suc n - 1 ≡ n = omega arith in rw e

module _ (n : ℕ) (s : List ℕ) (size stop at : ℕ) where
  pub find-here : 0 < n → size ≤ size_at s at → find_from n s size stop at ≡ at
  find-here more room = find_from-turn n s size stop at more ∙ simp (le-leb _ _ room)

  pub find-round : 0 < n → size_at s at < size → next_at s at ≡ stop → find_from n s size stop at ≡ 0
  find-round more short round = find_from-turn n s size stop at more ∙ simp (lt-leb _ _ short, eq-eqb _ _ round)

  pub find-on : 0 < n → size_at s at < size → (next_at s at ≡ stop → ⊥) → find_from n s size stop at ≡ find_from (n - 1) s size stop (next_at s at)
  find-on more short on = find_from-turn n s size stop at more ∙ simp (lt-leb _ _ short, ne_eqb _ _ on)

pub find_none : (n : ℕ) (s : List ℕ) (size stop at : ℕ) → n ≤ 0 → find_from n s size stop at ≡ 0
unfolding find_from
find_none zero s size stop at none = refl
find_none (suc n) s size stop at none = absurd (omega arith)

-- what the search finds has room
find_from-fits : (n : ℕ) (s : List ℕ) (size stop at : ℕ) → (find_from n s size stop at ≡ 0 → ⊥) → size ≤ size_at s (find_from n s size stop at)
unfolding find_from
find_from-fits zero s size stop at some = absurd (some refl)
find_from-fits (suc n) s size stop at some =
    by_tests (leb size (size_at s at)) refl (eqb (next_at s at) stop) (find_from n s size stop (next_at s at)) (find_from-fits n s size stop (next_at s at)) some
  where
    by_tests : (here : Bool) → leb size (size_at s at) ≡ here → (round : Bool) (further : ℕ) → ((further ≡ 0 → ⊥) → size ≤ size_at s further)
        → (cond here at (cond round 0 further) ≡ 0 → ⊥) → size ≤ size_at s (cond here at (cond round 0 further))
    by_tests true e round further ih some = leb-true _ _ e
    by_tests false e true further ih some = absurd (some refl)
    by_tests false e false further ih some = ih some

pub find-room : (s : List ℕ) (size f : ℕ) → f ≡ find s size → (f ≡ 0 → ⊥) → size ≤ size_at s f
unfolding find
find-room s size f e some = rw e (find_from-fits _ s size _ _ (λ z. some (e ∙ z)))

pub find-some : (s : List ℕ) (size : ℕ) (f : SegmentAddress) → Some f ≡ found (find s size) → (f.0 ≡ find s size) × (f.0 ≡ 0 → ⊥) × (size ≤ size_at s f.0)
find-some s size f e =
    let some = at_some _ f (sym e) in
    let zero : f.0 ≡ 0 → ⊥ = λ z. some.0 (some.1 ∙ z) in
    (sym some.1, zero, find-room s size f.0 (sym some.1) zero)

-- a block given: its high end, or all of it
module _ (s : List ℕ) (f size : ℕ) where
  pub given-split : size + 3 ≤ size_at s f → given s f size ≡ f + (size_at s f - size)
  unfolding given
  given-split room = simp (le-leb _ _ room)

  pub given-whole : size_at s f < size + 3 → given s f size ≡ f
  unfolding given
  given-whole tight = simp (lt-leb _ _ tight)

  pub give-split : size + 3 ≤ size_at s f → give s f size ≡ set_rover (split s f (size_at s f - size) size) (next_at s f)
  unfolding give
  give-split room = simp (le-leb _ _ room)

  pub give-whole : size_at s f < size + 3 → give s f size ≡ set_rover (given_whole s f (size_at s f - size) size) (next_at s f)
  unfolding give
  give-whole tight = simp (lt-leb _ _ tight)

-- it lies in the free block
pub given_inside : (s : List ℕ) (f size block : ℕ) → block ≡ given s f size → size ≤ size_at s f → (f ≤ block) × (block + size ≤ f + size_at s f)
given_inside s f size block e room =
    by_le (size + 3) (size_at s f)
    (λ big. omega (arith, e, given-split s f size big, room))
    (λ tight. omega (arith, e, given-whole s f size tight, room))

-- no block is given at 0
given-some : (s : List ℕ) (f size : ℕ) → (f ≡ 0 → ⊥) → given s f size ≡ 0 → ⊥
unfolding given
given-some s f size some = by-test (leb (size + 3) (size_at s f))
  where
    by-test : (split : Bool) → cond split (f + (size_at s f - size)) f ≡ 0 → ⊥
    by-test true zero-sum = omega (arith, some)
    by-test false none = some none

-- a request that finds none, and one that finds a block
module _ (s : List ℕ) (size : ℕ) where
  pub request-none : find s size ≡ 0 → request s size ≡ s
  unfolding request
  request-none none = simp (eq-eqb _ _ none)

  pub request_at-none : find s size ≡ 0 → request_at s size ≡ 0
  unfolding request_at
  request_at-none none = simp (eq-eqb _ _ none)

  pub request-some : (find s size ≡ 0 → ⊥) → request s size ≡ give s (find s size) size
  unfolding request
  request-some some = simp (ne_eqb _ _ some)

  pub request_at-some : (find s size ≡ 0 → ⊥) → request_at s size ≡ given s (find s size) size
  unfolding request_at
  request_at-some some = simp (ne_eqb _ _ some)

  -- a request that is answered by 0 leaves all as it was
  pub request-kept : request_at s size ≡ 0 → request s size ≡ s
  request-kept none = by-test (eqb (find s size) 0) refl
    where
      by-test : (b : Bool) → eqb (find s size) 0 ≡ b → request s size ≡ s
      by-test true e = request-none (eqb-true _ _ e)
      by-test false e = let some = eqb-false (find s size) 0 e in absurd (given-some s (find s size) size some (sym (request_at-some some) ∙ none))

  -- a need above 65,535 finds none
  pub request-small : (request_at s size ≡ 0 → ⊥) → size < 2 ^ 16
  request-small given = omega (arith, find-room s size (find s size) refl (λ none. given (request_at-none none)))

  -- the answer as the code gives it
  pub found_none : find s size ≡ 0 → None ≡ found (request_at s size)
  unfolding found
  found_none none = rw (request_at-none none)

  pub found_some : (block : SegmentAddress) → (find s size ≡ 0 → ⊥) → block.0 ≡ given s (find s size) size → Some block ≡ found (request_at s size)
  unfolding found
  found_some block some e =
      rw (request_at-some some, ← e)
      (simp (ne_eqb block.0 0 (λ z. given-some s (find s size) size some (sym e ∙ z))))
