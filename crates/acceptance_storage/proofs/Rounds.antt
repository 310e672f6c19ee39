-- The round of the ring: a member at a time, and what the loop keeps.
use Prim.Native.Nat.{ℕ, zero, suc, ◌+◌, ◌-◌, ◌<◌, ◌≤◌}
use mathlib.Core.Path.{◌≡◌, refl, sym, ◌∙◌, ap}
use mathlib.Core.Bool.{Bool, true, false, ◌&&◌, and-true}
use mathlib.Core.List.{List, [], ◌∷◌}
use mathlib.Core.Logic.{⊎_elim}
use native.Mathlib.Omega.{arith}
use lib.ListN.{get_or, set, length}
use lib.Dec.{leb, eqb}
use borrow.Author.Tests.{le-leb, lt-leb, eq-eqb, ne_eqb}
use Rattle.segment.specs.State.{rover}
use Rattle.segment.specs.Blocks.{next_at, last_at, dummy}
use Rattle.storage.specs.Heap.{hit, count}
use Rattle.storage_theorems.proofs.Counts.{hit-cases, hit-eq, hit-not}
use Rattle.acceptance_storage.specs.Blocks.{free_starts}
use Rattle.acceptance_storage.specs.Ring.{without, linked, round_from, ring_test}
use Rattle.acceptance_storage.specs.Marks.{Tally}
use Rattle.acceptance_storage.proofs.Tests.{second-fails}
use Rattle.acceptance_storage.proofs.Tallies.{lower-at}

-- a list without a member
pub without-count : (x y : ℕ) (l : List ℕ) → 0 < count y l → count x (without y l) + hit x y ≡ count x l
without-count x y [] h = absurd (omega arith)
without-count x y (z ∷ l) h =
    ⊎_elim (λ (e : (y ≡ z) × (hit y z ≡ 1)). simp (eq-eqb y z e.0) (rw e.0 (omega arith)))
    (λ (e : (y ≡ z → ⊥) × (hit y z ≡ 0)). simp (ne_eqb y z e.0) (omega (arith, without-count x y l (omega (arith, e)))))
    (hit-cases y z)

pub without-length : (y : ℕ) (l : List ℕ) → 0 < count y l → length (without y l) + 1 ≡ length l
without-length y [] h = absurd (omega arith)
without-length y (z ∷ l) h =
    ⊎_elim (λ (e : (y ≡ z) × (hit y z ≡ 1)). simp (eq-eqb y z e.0) (omega arith))
    (λ (e : (y ≡ z → ⊥) × (hit y z ≡ 0)). simp (ne_eqb y z e.0) (omega (arith, without-length y l (omega (arith, e)))))
    (hit-cases y z)

pub none-counted : (l : List ℕ) → length l ≡ 0 → (x : ℕ) → count x l ≡ 0
none-counted [] e x = refl
none-counted (y ∷ l) e x = absurd (omega arith)

-- links
module _ (s : List ℕ) (a b : ℕ) where
  pub linked-yes : next_at s a ≡ b → linked s a b ≡ eqb (last_at s b) a
  unfolding linked
  linked-yes e = simp (eq-eqb _ _ e)

  pub linked-no : (next_at s a ≡ b → ⊥) → linked s a b ≡ false
  unfolding linked
  linked-no e = simp (ne_eqb _ _ e)

-- a step of the round
module _ (s : List ℕ) (end a : ℕ) (l : List ℕ) where
  round-step : (n : ℕ) → 0 < n
      → round_from n s end a l ≡ (linked s a (next_at s a) && leb 1 (count (next_at s a) l) && round_from (n - 1) s end (next_at s a) (without (next_at s a) l))
  unfolding round_from
  round-step zero h = absurd (omega arith)
  round-step (suc n) h = let e : suc n - 1 ≡ n = omega arith in rw e

  pub step-last : (n : ℕ) → n ≤ 0 → round_from n s end a l ≡ linked s a end
  unfolding round_from
  step-last zero h = refl
  step-last (suc n) h = absurd (omega arith)

  module _ (n : ℕ) (left : 0 < n) where
    pub step-bad : linked s a (next_at s a) ≡ false → round_from n s end a l ≡ false
    step-bad e = round-step n left ∙ simp e

    module _ (e : linked s a (next_at s a) ≡ true) where
      pub step-missing : count (next_at s a) l ≡ 0 → round_from n s end a l ≡ false
      step-missing h = round-step n left ∙ simp (e, lt-leb 1 (count (next_at s a) l) (omega arith))

      pub step-on : 0 < count (next_at s a) l → round_from n s end a l ≡ round_from (n - 1) s end (next_at s a) (without (next_at s a) l)
      step-on h = round-step n left ∙ simp (e, le-leb 1 (count (next_at s a) l) h)

-- the loop: what the table holds is what is left of the free blocks
pub record Round (s : List ℕ) (end : ℕ) (frees marks : List ℕ) (at left : ℕ) : Type 0 where
  pub rest : List ℕ
  pub many : length rest ≡ left
  pub tally : Tally marks rest
  pub same : round_from (length frees) s end end frees ≡ round_from left s end at rest

pub round-start : (s : List ℕ) (end : ℕ) (frees marks : List ℕ) (n : ℕ) → n ≡ length frees → Tally marks frees → Round s end frees marks end n
round-start s end frees marks n e h = record { rest = frees; many = sym e; tally = h; same = rw e }

module _ (s : List ℕ) (end : ℕ) (frees marks : List ℕ) (at left : ℕ) (h : Round s end frees marks at left) where
  pub round-last : left ≤ 0 → round_from (length frees) s end end frees ≡ linked s at end
  round-last z = h.same ∙ step-last s end at h.rest left z

  pub round-clear : left ≤ 0 → Tally marks []
  round-clear z x = h.tally x ∙ none-counted h.rest (omega (arith, h.many)) x

  module _ (some : 0 < left) (next : ℕ) (e : next ≡ next_at s at) where
    pub round-bad : linked s at next ≡ false → round_from (length frees) s end end frees ≡ false
    round-bad k = h.same ∙ step-bad s end at h.rest left some (rw e at k)

    module _ (k : linked s at next ≡ true) {place mark : ℕ} (there : place ≡ next) (m : mark ≡ get_or marks place 0) where
      found : mark ≡ count next h.rest
      found = m ∙ ap (λ (i : ℕ). get_or marks i 0) there ∙ h.tally next

      pub round-missing : mark ≡ 0 → round_from (length frees) s end end frees ≡ false
      round-missing z = h.same ∙ step-missing s end at h.rest left some (rw e at k) (rw e at (sym found ∙ z))

      pub round-on : (mark ≡ 0 → ⊥) → {after : List ℕ} → after ≡ set marks place (get_or marks place 0 - 1) → {less : ℕ} → less ≡ left - 1 → Round s end frees after next less
      round-on z a less =
          let p : 0 < count next h.rest = omega (arith, found, z) in
          rw (a, there, less)
          (record {
            rest = without next h.rest;
            many = omega (arith, h.many, without-length next h.rest p);
            tally = λ x. omega (arith, lower-at marks next x (omega (arith, h.tally next)), without-count x next h.rest p, h.tally x);
            same = h.same ∙ step-on s end at h.rest left some (rw e at k) (rw e at p) ∙ rw (← e);
          })

-- ROVER on the ring
module _ (marks : List ℕ) (at end : ℕ) where
  pub on-dummy : at ≡ end → true ≡ leb 1 (hit at end + get_or marks at 0)
  on-dummy e = sym (le-leb 1 (hit at end + get_or marks at 0) (omega (arith, hit-eq at end e)))

  pub on-mark : (at ≡ end → ⊥) → leb 1 (get_or marks at 0) ≡ leb 1 (hit at end + get_or marks at 0)
  on-mark e = let k : get_or marks at 0 ≡ hit at end + get_or marks at 0 = omega (arith, hit-not at end e) in ap (leb 1) k

-- test 15, with the values that the code has in hand
pub on-round : (s : List ℕ) → leb 1 (count (rover s) (dummy s ∷ free_starts s)) ≡ true
    → ring_test s ≡ round_from (length (free_starts s)) s (dummy s) (dummy s) (free_starts s)
unfolding ring_test
on-round s e = rw e (and-true (round_from (length (free_starts s)) s (dummy s) (dummy s) (free_starts s)))

off-round : (s : List ℕ) → leb 1 (count (rover s) (dummy s ∷ free_starts s)) ≡ false → ring_test s ≡ false
unfolding ring_test
off-round s e = second-fails (round_from (length (free_starts s)) s (dummy s) (dummy s) (free_starts s)) e

module _ (s marks : List ℕ) (t : Tally marks (free_starts s)) (at end : ℕ) (r : at ≡ rover s) (d : end ≡ dummy s) where
  same_place : leb 1 (hit at end + get_or marks at 0) ≡ leb 1 (count (rover s) (dummy s ∷ free_starts s))
  same_place = rw (r, d, t (rover s))

  pub ring-off : leb 1 (hit at end + get_or marks at 0) ≡ false → ring_test s ≡ false
  ring-off e = off-round s (sym same_place ∙ e)

  pub ring-on : leb 1 (hit at end + get_or marks at 0) ≡ true → (b : Bool) → b ≡ round_from (length (free_starts s)) s end end (free_starts s) → b ≡ ring_test s
  ring-on e b k = (rw d at k) ∙ sym (on-round s (sym same_place ∙ e))
