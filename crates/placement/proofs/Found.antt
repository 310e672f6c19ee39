-- A request that is served: where the block is found, what is given of it, ROVER and the ring afterwards.
use Prim.Native.Nat.{ℕ, ◌+◌, ◌-◌, ◌*◌, ◌/◌, ◌%◌, ◌^◌, ◌<◌, ◌≤◌}
use mathlib.Core.Path.{◌≡◌, refl, sym, ◌∙◌, ap, subst}
use mathlib.Core.List.{List, [], ◌∷◌, ◌++◌, append_assoc}
use mathlib.Core.Logic.{◌≢◌, ⊎_elim}
use native.Mathlib.Omega.{arith}
use lib.ListN.{get_or, length}
use borrow.Author.Tests.{le-leb}
use Rattle.segment.specs.State.{rover, blockptr, set_rover}
use Rattle.segment.specs.Blocks.{size_at, next_at}
use Rattle.storage.specs.Request.{find, split, given_whole, give, given, request, request_at}
use Rattle.storage.specs.Heap.{Block, over, frees, hit, count, Links, Heap, free}
use Rattle.segment.proofs.Fields.{set_rover-other}
use Rattle.storage_theorems.proofs.Ways.{given-split, given-whole, give-split, give-whole, request_at-none, request-some, request_at-some}
use Rattle.storage_theorems.proofs.Walks.{over-le}
use Rattle.storage_theorems.proofs.Counts.{order, hit-cases, hit_same, count-append, over-append, frees-count, free-split}
use Rattle.storage_theorems.proofs.Search.{here, there, nowhere, ring-once, free-ring, find-is, find_cases, members-once}
use Rattle.storage_theorems.proofs.Search as search
use Rattle.storage_theorems.proofs.Split.{split-first, split-given, split-links, split-rover}
use Rattle.storage_theorems.proofs.Whole.{whole-first, whole-links, whole-rover}
use Rattle.storage_theorems.proofs.Request.{free-size}
use Rattle.placement.specs.Placement.{RingFrom, Found, HighEnd, Entire, Given, Turned}
use Rattle.placement.proofs.Rings.{links-one, Round, round-turn, ring-starting, round-next}

-- what the search finds is the first of the list with room
found_first : {s : List ℕ} {size : ℕ} {l : List ℕ} {r : ℕ} → search.Found s size l r → r ≢ 0
    → (before : List ℕ) × (after : List ℕ) × (l ≡ before ++ r ∷ after) × ((x : ℕ) → 0 < count x before → size_at s x < size) × (size ≤ size_at s r)
found_first (here {a} {t} k) n = ([], t, refl, λ x c. absurd (omega (arith, c)), k)
found_first {s} {size} (there {a} {r} {t} k f) n =
    let q = found_first f n in (
      a ∷ q.0,
      q.1,
      ap (λ (m : List ℕ). a ∷ m) q.2,
      λ x c. ⊎_elim (λ w. rw w.0 k) (λ w. q.3 x (omega (arith, c, w))) (hit-cases x a),
      q.4,
    )
found_first nowhere n = absurd (n refl)

first_found : {s : List ℕ} {size r : ℕ} (before : List ℕ) (f : ℕ) (after : List ℕ) → search.Found s size (before ++ f ∷ after) r
    → ((x : ℕ) → 0 < count x before → size_at s x < size) → size ≤ size_at s f → r ≡ f
first_found [] f after (here k) p h = refl
first_found [] f after (there k q) p h = absurd (omega (arith, k, h))
first_found (b ∷ before) f after (here k) p h = absurd (omega (arith, k, p b (omega (arith, hit_same b))))
first_found (b ∷ before) f after (there k q) p h = first_found before f after q (λ x c. p x (omega (arith, c))) h

module _ {s : List ℕ} {bs : List Block} {t : List ℕ} (size : ℕ) (g : Heap s bs t) (n3 : 3 ≤ size) where
  pub found : request_at s size ≢ 0 → Found s bs t size
  found n =
      let some : find s size ≢ 0 = λ e. n (request_at-none s size e) in
      let q = found_first (find-is g size) some in
      record {
        block = find s size;
        before = q.0;
        after = q.1;
        place = q.2;
        passed = q.3;
        suffices = q.4;
        is_free = ⊎_elim (λ e. absurd (some e.0)) (λ e. e.0) (find_cases g size (omega arith));
      }

  pub find-there : (here : Found s bs t size) → find s size ≡ here.block
  find-there w = first_found w.before w.block w.after (rw w.place at (find-is g size)) w.passed w.suffices

-- SLOP in a first word
slop-of : {w : ℕ} (slop size : ℕ) → slop ≤ 2 → size < 2 ^ 16 → w ≡ slop * 2 ^ 16 + size → w / 2 ^ 16 % 4 ≡ slop
slop-of slop size h k e = omega (arith, e)

-- the found block by its place among the blocks
module _ {s : List ℕ} {t : List ℕ} (xs : List Block) (n : ℕ) (ys : List Block) (size : ℕ) (g : Heap s (xs ++ free n ∷ ys) t) (n3 : 3 ≤ size)
    (is : find s size ≡ over (blockptr s) xs) where
  abbrev f : ℕ
  f = over (blockptr s) xs

  abbrev end : ℕ
  end = over (blockptr s) (xs ++ free n ∷ ys)

  long : size_at s f ≡ n
  long = free-size xs n ys g

  place : (8 ≤ f) × (f + n ≤ end) × (end + 3 ≤ length s) × (length s ≤ 16384)
  place = (
    omega (arith, g.low, over-le (blockptr s) xs),
    omega (arith, over-append (blockptr s) xs (free n ∷ ys), over-le (f + n) ys),
    omega (arith, g.top, g.room),
    g.short,
  )

  some : find s size ≢ 0
  some e = omega (arith, is, e, place)

  at-is : request_at s size ≡ given s f size
  at-is = request_at-some s size some ∙ ap (λ (y : ℕ). given s y size) is

  words-is : request s size ≡ give s f size
  words-is = request-some s size some ∙ ap (λ (y : ℕ). give s y size) is

  f-free : 0 < count f (frees (blockptr s) (xs ++ free n ∷ ys))
  f-free = omega (arith, hit_same f, frees-count f (blockptr s) xs (free n ∷ ys))

  -- the high end
  module _ (big : size + 3 ≤ n) where
    split-is : request s size ≡ set_rover (split s f (n - size) size) (next_at s f)
    split-is = words-is ∙ give-split s f size (omega (arith, long)) ∙ rw long

    split_at : request_at s size ≡ f + (n - size)
    split_at = at-is ∙ given-split s f size (omega (arith, long)) ∙ rw long

    kept-first : get_or (request s size) f 0 ≡ 2 ^ 31 + (n - size)
    kept-first =
        rw split-is (set_rover-other _ _ f (omega (arith, place)) ∙ split-first s f (n - size) size (omega arith) n3 (omega (arith, place)))

    given-first : get_or (request s size) (f + (n - size)) 0 ≡ 2 ^ 30 + size
    given-first =
        rw split-is
        (set_rover-other _ _ (f + (n - size)) (omega (arith, place)) ∙ split-given s f (n - size) size (omega arith) n3 (omega (arith, place)))

    high_end : HighEnd s size f
    high_end = record {
      starts = rw long split_at;
      sized = rw split_at (omega (arith, given-first, place));
      slop = rw split_at (omega (arith, given-first, place));
      stays = le-leb (2 ^ 31) (get_or (request s size) f 0) (omega (arith, kept-first));
      shrinks = omega (arith, kept-first, long, place);
    }

  -- all
  module _ (fits : size ≤ n) (small : n < size + 3) where
    whole_is : request s size ≡ set_rover (given_whole s f (n - size) size) (next_at s f)
    whole_is = words-is ∙ give-whole s f size (omega (arith, long)) ∙ rw long

    whole-at : request_at s size ≡ f
    whole-at = at-is ∙ given-whole s f size (omega (arith, long))

    all_first : get_or (request s size) f 0 ≡ (n - size) * 2 ^ 16 + size
    all_first = rw whole_is (set_rover-other _ _ f (omega (arith, place)) ∙ whole-first s f (n - size) size n3 (omega (arith, place)))

    entire : Entire s size f
    entire = record { starts = whole-at; sized = omega (arith, all_first, place); slop = slop-of (n - size) size (omega arith) (omega (arith, place)) all_first ∙ rw long }

  given-place : size ≤ n → Given s size f
  given-place fits = record { high_end = λ h. high_end (omega (arith, h, long)); entire = λ h. entire fits (omega (arith, h, long)) }

  -- the ring, with the found block where the search found it
  module _ (before after : List ℕ) (e : rover s ∷ t ≡ before ++ f ∷ after) where
    once : (x : ℕ) → count x before + (hit x f + count x after) ≤ 1
    once x = omega (arith, ring-once g x, ap (count x) e, count-append x before (f ∷ after))

    from-f : Links s f (after ++ before) f
    from-f = round-turn s before (f ∷ after) (subst (Round s) e g.links)

    joined : after ++ (before ++ f ∷ []) ≡ (after ++ before) ++ f ∷ []
    joined = sym (append_assoc after before (f ∷ []))

    split-turned : size + 3 ≤ n → RingFrom (request s size) (rover (request s size)) (after ++ (before ++ f ∷ []))
    split-turned big = go
      where
        s' : List ℕ
        s' = set_rover (split s f (n - size) size) (next_at s f)

        r : Round s' (before ++ f ∷ after)
        r = subst (Round s') e (split-links xs n ys size g n3 big)

        q : Round s' (after ++ (before ++ f ∷ []))
        q = round-turn s' (before ++ f ∷ []) after (rw (append_assoc before (f ∷ []) after) r)

        go : RingFrom (request s size) (rover (request s size)) (after ++ (before ++ f ∷ []))
        go =
            let w = round-next s f (after ++ before) from-f in
            rw (split-is big, split-rover xs n ys size g n3 big)
            (ring-starting (next_at s f) w.0 q (joined ∙ w.1)
            (λ x. omega (arith, once x, count-append x after (before ++ f ∷ []), count-append x before (f ∷ []))))

    whole-turned : size ≤ n → n < size + 3 → RingFrom (request s size) (rover (request s size)) (after ++ before)
    whole-turned fits small = let w = free-ring g f f-free in go w.0 w.1 w.2 w.3
      where
        go : (b : ℕ) (vs : List ℕ) → Links s f (b ∷ vs) f
            → ((x : ℕ) → count x (f ∷ b ∷ vs) ≡ count x (end ∷ frees (blockptr s) (xs ++ free n ∷ ys)))
            → RingFrom (request s size) (rover (request s size)) (after ++ before)
        go b vs h c =
            let d : after ++ before ≡ b ∷ vs = links-one s f f (after ++ before) (b ∷ vs) from-f h
            (omega (arith, once f, hit_same f, count-append f after before)) (omega (arith, c f, members-once g f, hit_same f)) in
            rw (whole_is fits small, whole-rover xs n ys size g n3 fits small b vs h c)
            (ring-starting b vs (rw d (whole-links xs n ys size g n3 fits small b vs h c)) d
            (λ x. omega (arith, once x, count-append x after before)))

    next-is : size ≤ n → rover (request s size) ≡ next_at s f
    next-is fits =
        ⊎_elim (λ big. rw (split-is big) (split-rover xs n ys size g n3 big))
        (λ small. let w = free-ring g f f-free in
        rw (whole_is fits small) (whole-rover xs n ys size g n3 fits small w.0 w.1 w.2 w.3 ∙ sym w.2.0.next))
        (order (size + 3) n)

    turned-place : size ≤ n → Turned s size f before after
    turned-place fits = record {
      next = next-is fits;
      keeps = λ h. split-turned (omega (arith, h, long));
      leaves = λ h. whole-turned fits (omega (arith, h, long));
    }

-- the same of what a request finds in a heap
module _ {s : List ℕ} {bs : List Block} {t : List ℕ} (size : ℕ) (g : Heap s bs t) (n3 : 3 ≤ size) where
  module _ (f : ℕ) (long : size ≤ size_at s f) (is : find s size ≡ f) (xs : List Block) (n : ℕ) (ys : List Block) (e : bs ≡ xs ++ free n ∷ ys)
      (q : over (blockptr s) xs ≡ f) where
    g' : Heap s (xs ++ free n ∷ ys) t
    g' = rw e at g

    fits : size ≤ n
    fits = omega (arith, long, free-size xs n ys g', ap (size_at s) q)

    given-there : Given s size f
    given-there = rw (← q) (given-place xs n ys size g' n3 (is ∙ sym q) fits)

    turned-there : (before after : List ℕ) → rover s ∷ t ≡ before ++ f ∷ after → Turned s size f before after
    turned-there before after k = rw (← q) (turned-place xs n ys size g' n3 (is ∙ sym q) before after (rw (← q) at k) fits)

  pub given-found : (here : Found s bs t size) → Given s size here.block
  given-found w =
      let r = free-split (blockptr s) bs w.block w.is_free in
      given-there w.block w.suffices (find-there size g n3 w) r.0 r.1 r.2 r.3 r.4

  pub turned-found : (here : Found s bs t size) → Turned s size here.block here.before here.after
  turned-found w =
      let r = free-split (blockptr s) bs w.block w.is_free in
      turned-there w.block w.suffices (find-there size g n3 w) r.0 r.1 r.2 r.3 r.4 w.before w.after w.place
