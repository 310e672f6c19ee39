-- Sixteen places that differ are all of them: how many are missing falls by one with each.
use Prim.Native.Nat.{ℕ, zero, suc, ◌+◌, ◌<◌, ◌≤◌}
use mathlib.Core.Path.{◌≡◌, refl, sym, ◌∙◌, ap}
use mathlib.Core.Bool.{Bool, true, false, cond, not, ◌&&◌, ◌||◌, false≢true}
use mathlib.Core.List.{List, [], ◌∷◌}
use native.Mathlib.Omega.{arith}
use lib.Dec.{leb, eqb}
use lib.ListN.{length, get_or}
use borrow.Author.Tests.{leb-true, eqb-true, eqb-false, eq-eqb, ne_eqb, not-true}
use Rattle.descriptor.proofs.Truth.{both, second_holds}
use Rattle.operator.specs.Lent.{stands, each_once}

-- How many of the first n places stand not among the bytes.
abbrev missing : ℕ → List ℕ → ℕ
missing zero bytes = 0
missing (suc n) bytes = cond (stands n bytes) 0 1 + missing n bytes

-- a byte from the bound on changes nothing; one below it that was missing is missing no more
same-missing : (n b : ℕ) (bytes : List ℕ) → n ≤ b → missing n (b ∷ bytes) ≡ missing n bytes
same-missing zero b bytes h = refl
same-missing (suc n) b bytes h = simp (ne_eqb n b (λ e. omega (arith, h, e)), same-missing n b bytes (omega arith))

one_less : (n b : ℕ) (bytes : List ℕ) → b < n → stands b bytes ≡ false → missing n (b ∷ bytes) + 1 ≡ missing n bytes
one_less zero b bytes h e = omega arith
one_less (suc n) b bytes h e = by (eqb n b) refl (λ l. one_less n b bytes l e)
  where
    by : (same : Bool) → eqb n b ≡ same → (b < n → missing n (b ∷ bytes) + 1 ≡ missing n bytes)
        → cond (same || stands n bytes) 0 1 + missing n (b ∷ bytes) + 1 ≡ cond (stands n bytes) 0 1 + missing n bytes
    by true s later =
        let z = eqb-true n b s in
        let w : stands n bytes ≡ false = rw z e in
        rw w (omega (arith, same-missing n b bytes (omega (arith, z))))
    by false s later = let z = later (omega (arith, h, eqb-false n b s)) in omega (arith, z)

-- What a byte of a table passes.
record Passes (before : List ℕ) (b : ℕ) (bytes : List ℕ) : Type 0 where
  place : b ≤ 15
  new : stands b before ≡ false
  later : each_once (b ∷ before) bytes ≡ true

passes : (before : List ℕ) (b : ℕ) (bytes : List ℕ) → each_once before (b ∷ bytes) ≡ true → Passes before b bytes
passes before b bytes e =
    let rest = both (leb b 15 && not (stands b before)) (each_once (b ∷ before) bytes) e in
    let here = both (leb b 15) (not (stands b before)) rest.0 in
    record { place = leb-true b 15 here.0; new = not-true (stands b before) here.1; later = rest.1 }

pub all-places : (before bytes : List ℕ) → each_once before bytes ≡ true → (n : ℕ) → n < length bytes → get_or bytes n 0 ≤ 15
all-places before [] e n h = omega arith
all-places before (b ∷ bytes) e zero h = (passes before b bytes e).place
all-places before (b ∷ bytes) e (suc n) h = all-places (b ∷ before) bytes (passes before b bytes e).later n (omega arith)

-- ---- every place stands among the bytes

none-missing : (n : ℕ) (bytes : List ℕ) → missing n bytes ≡ 0 → (k : ℕ) → k < n → stands k bytes ≡ true
none-missing zero bytes e k h = absurd (omega arith)
none-missing (suc n) bytes e k h = by (stands n bytes) refl (eqb k n) refl e (none-missing n bytes)
  where
    by : (last : Bool) → stands n bytes ≡ last → (same : Bool) → eqb k n ≡ same → cond last 0 1 + missing n bytes ≡ 0
        → (missing n bytes ≡ 0 → (k : ℕ) → k < n → stands k bytes ≡ true) → stands k bytes ≡ true
    by true s true q e later = rw (eqb-true k n q) s
    by true s false q e later = later (omega (arith, e)) k (omega (arith, h, eqb-false k n q))
    by false s same q e later = absurd (omega (arith, e))

either : (a b c : Bool) → ((a || b) || c) ≡ true → (b || (a || c)) ≡ true
either true true c e = refl
either true false c e = refl
either false b c e = e

last_one : (a : Bool) → a ≡ true → (a || false) ≡ true
last_one a e = rw e

-- as many bytes come as places are missing
pub all-stand : (before bytes : List ℕ) → each_once before bytes ≡ true → missing 16 before ≡ length bytes → (k : ℕ) → k < 16
    → (stands k before || stands k bytes) ≡ true
all-stand before [] e m k h = last_one (stands k before) (none-missing 16 before m k h)
all-stand before (b ∷ bytes) e m k h =
    let p = passes before b bytes e in
    let less = one_less 16 b before (omega (arith, p.place)) p.new in
    either (eqb k b) (stands k before) (stands k bytes) (all-stand (b ∷ before) bytes p.later (omega (arith, less, m)) k h)

-- and where
pub found : (bytes : List ℕ) (k : ℕ) → stands k bytes ≡ true → (n : ℕ) × (n < length bytes) × (get_or bytes n 0 ≡ k)
found [] k e = absurd (false≢true e)
found (b ∷ bytes) k e = by (eqb k b) refl e (found bytes k)
  where
    by : (same : Bool) → eqb k b ≡ same → (same || stands k bytes) ≡ true → (stands k bytes ≡ true → (n : ℕ) × (n < length bytes) × (get_or bytes n 0 ≡ k))
        → (n : ℕ) × (n < length (b ∷ bytes)) × (get_or (b ∷ bytes) n 0 ≡ k)
    by true s e later = (0, omega arith, sym (eqb-true k b s))
    by false s e later = let r = later e in (suc r.0, omega (arith, r.1), r.2)

-- ---- none stands twice

not-later : (before bytes : List ℕ) → each_once before bytes ≡ true → (k : ℕ) → stands k before ≡ true → (n : ℕ) → n < length bytes → get_or bytes n 0 ≡ k → ⊥
not-later before [] e k s n h q = omega arith
not-later before (b ∷ bytes) e k s zero h q = false≢true (sym (passes before b bytes e).new ∙ rw q s)
not-later before (b ∷ bytes) e k s (suc n) h q =
    not-later (b ∷ before) bytes (passes before b bytes e).later k (second_holds (eqb k b) (stands k before) s) n (omega arith) q

pub same_place : (before bytes : List ℕ) → each_once before bytes ≡ true → (m n : ℕ) → m < length bytes → n < length bytes → get_or bytes m 0 ≡ get_or bytes n 0 → m ≡ n
same_place before [] e m n h k q = omega arith
same_place before (b ∷ bytes) e zero zero h k q = refl
same_place before (b ∷ bytes) e zero (suc n) h k q =
    absurd (not-later (b ∷ before) bytes (passes before b bytes e).later b (rw (eq-eqb b b refl)) n (omega arith) (sym q))
same_place before (b ∷ bytes) e (suc m) zero h k q =
    absurd (not-later (b ∷ before) bytes (passes before b bytes e).later b (rw (eq-eqb b b refl)) m (omega arith) q)
same_place before (b ∷ bytes) e (suc m) (suc n) h k q = ap suc (same_place (b ∷ before) bytes (passes before b bytes e).later m n (omega arith) (omega arith) q)
