-- Loops that write the results of elements: the results so far, and the first trap.
use Prim.Native.Nat.{ℕ, zero, suc, ◌+◌, ◌<◌, ◌≤◌}
use native.Mathlib.Nat.{le_of_suc-le-suc, not-suc-le-zero}
use native.Mathlib.Numerals.{add-one}
use native.Mathlib.Omega.{arith}
use mathlib.Core.Path.{◌≡◌, refl, sym, ap, ◌∙◌}
use mathlib.Core.Bool.{Bool, true, false}
use mathlib.Core.List.{List, [], ◌∷◌, ◌++◌, append_assoc, append-nil, map}
use borrow.Author.Tests.{eq-eqb, ne_eqb, eqb-false}
use lib.ListN.{length, get_or, take, drop, set, length-set, length-replicate, get_or-replicate}
use lib.Seq.{take-suc-set, drop-cons}
use Rattle.manual.specs.OrTrap.{OrTrap, gives, trap, and_then}
use Rattle.elements.specs.Answers.{Paired}
use Rattle.elements.specs.Parts.{Spans, Operands}
use Rattle.manual.specs.Values.{collect, each, zip, spread, is_single, extent, pairwise}

-- words, then what is left
abbrev pub joined : List ℕ → OrTrap (List ℕ) → OrTrap (List ℕ)
joined ws (gives r) = gives (ws ++ r)
joined ws (trap c n) = trap c n

joined-joined : (xs ys : List ℕ) (r : OrTrap (List ℕ)) → joined xs (joined ys r) ≡ joined (xs ++ ys) r
joined-joined xs ys (gives r) = ap gives (sym (append_assoc xs ys r))
joined-joined xs ys (trap c n) = refl

joined-one : (w : ℕ) (r : OrTrap (List ℕ)) → and_then r (λ ws. gives (w ∷ ws)) ≡ joined (w ∷ []) r
joined-one w (gives r) = refl
joined-one w (trap c n) = refl

joined-none : (r : OrTrap (List ℕ)) → joined [] r ≡ r
joined-none (gives r) = refl
joined-none (trap c n) = refl

-- The loop's invariant: the results are the words written so far and then the results from i on. A record, so that what stands in it is found by its name.
pub record Written (rs : List (OrTrap ℕ)) (out : List ℕ) (i : ℕ) : Type 0 where
  pub so_far : collect rs ≡ joined (take i out) (collect (drop i rs))

-- r is element i of the results
pub record Element (rs : List (OrTrap ℕ)) (i : ℕ) (r : OrTrap ℕ) : Type 0 where
  pub below : i < length rs
  pub is : get_or rs i (trap 0 0) ≡ r

-- the loop begins
pub start : {rs : List (OrTrap ℕ)} {out : List ℕ} → Written rs out 0
start {rs} {out} = record { so_far = sym (joined-none (collect rs)) }

-- the element at i is a trap
trapped : {rs : List (OrTrap ℕ)} {out : List ℕ} {i : ℕ} {r : OrTrap ℕ} {c k : ℕ} → Written rs out i → Element rs i r → r ≡ trap c k → collect rs ≡ trap c k
trapped {rs} {out} {i} inv e t =
    inv.so_far ∙ ap (λ (l : List (OrTrap ℕ)). joined (take i out) (collect l)) (drop-cons rs i (trap 0 0) e.below) ∙ rw (e.is, t)

-- the element at i is a word, and is written
pub word : {rs : List (OrTrap ℕ)} {out : List ℕ} {i : ℕ} {r : OrTrap ℕ} {w : ℕ} → Written rs out i → Element rs i r → r ≡ gives w → i < length out
    → Written rs (set out i w) (i + 1)
word {rs} {out} {i} {r} {w} inv e t h =
    record {
      so_far =
          rw (add-one i, take-suc-set out i w h)
          (inv.so_far
          ∙ ap (λ (l : List (OrTrap ℕ)). joined (take i out) (collect l)) (drop-cons rs i (trap 0 0) e.below)
          ∙ ap (λ (r : OrTrap ℕ). joined (take i out) (and_then r (λ v. and_then (collect (drop (suc i) rs)) (λ ws. gives (v ∷ ws))))) (e.is ∙ t)
          ∙ ap (joined (take i out)) (joined-one w (collect (drop (suc i) rs)))
          ∙ joined-joined (take i out) (w ∷ []) (collect (drop (suc i) rs)));
    }

-- the loop ends
pub ended : {rs : List (OrTrap ℕ)} {out : List ℕ} {i : ℕ} (n : ℕ) → Written rs out i → length rs ≡ n → i ≡ n → collect rs ≡ gives (take n out)
ended {rs} {out} {i} n inv h e =
    inv.so_far ∙ rw (e, ← h, lib.Seq.drop-length rs) (ap gives (append-nil (take (length rs) out)))

-- ---- a loop that stops at the first trap

-- After i of n turns.
pub record Exact (rs : List (OrTrap ℕ)) (n : ℕ) (out₀ out : List ℕ) (i : ℕ) : Type 0 where
  pub count : length rs ≡ n
  pub room : n ≤ length out₀
  pub kept : length out ≡ length out₀
  pub within : i ≤ n
  pub written : Written rs out i

pub exact-start : {rs : List (OrTrap ℕ)} {n : ℕ} {out : List ℕ} → length rs ≡ n → n ≤ length out → Exact rs n out out 0
exact-start e h = record { count = e; room = h; kept = refl; within = omega arith; written = start }

module _ {rs : List (OrTrap ℕ)} {n : ℕ} {out₀ out : List ℕ} {i : ℕ} (inv : Exact rs n out₀ out i) where
  pub exact-trap : {r : OrTrap ℕ} {c k : ℕ} → Element rs i r → r ≡ trap c k → trap c k ≡ collect rs
  exact-trap e t = sym (trapped inv.written e t)

  pub exact_word : {r : OrTrap ℕ} {w : ℕ} → Element rs i r → r ≡ gives w → Exact rs n out₀ (set out i w) (i + 1)
  exact_word e t =
      let below : i < n = rw (← inv.count) e.below in
      record {
        count = inv.count;
        room = inv.room;
        kept = simp length-set inv.kept;
        within = omega arith;
        written = word inv.written e t (omega (arith, inv.room, inv.kept));
      }

  pub exact-end : i ≡ n → gives (take n out) ≡ collect rs
  exact-end all = sym (ended n inv.written inv.count all)

-- ---- a one-element operand is repeated

length-spread : (n : ℕ) (a : List ℕ) → ((length a ≡ 1 → ⊥) → length a ≡ n) → length (spread n a) ≡ n
length-spread n a h = go (is_single a) refl
  where
    go : (t : Bool) → is_single a ≡ t → length (spread n a) ≡ n
    go true e = rw e (length-replicate n (get_or a 0 0))
    go false e = rw e (h (eqb-false (length a) 1 e))

length-zip : {A : Type 0} (f : ℕ → ℕ → A) (xs ys : List ℕ) (n : ℕ) → length xs ≡ n → length ys ≡ n → length (zip f xs ys) ≡ n
length-zip f [] ys n p q = p
length-zip f (x ∷ xs) [] n p q = q
length-zip f (x ∷ xs) (y ∷ ys) zero p q = absurd (omega arith)
length-zip f (x ∷ xs) (y ∷ ys) (suc n) p q = ap suc (length-zip f xs ys n (omega arith) (omega arith))

pub length_pairs : {A : Type 0} (f : ℕ → ℕ → A) {n : ℕ} {a b : List ℕ} → Operands a b n → length (zip f (spread n a) (spread n b)) ≡ n
length_pairs f {n} {a} {b} o = length-zip f (spread n a) (spread n b) n (length-spread n a o.first.fits) (length-spread n b o.second.fits)

get_d_zip : {A : Type 0} (f : ℕ → ℕ → A) (xs ys : List ℕ) (i : ℕ) (d : A) → i < length xs → i < length ys
    → get_or (zip f xs ys) i d ≡ f (get_or xs i 0) (get_or ys i 0)
get_d_zip f [] ys i d p q = absurd (not-suc-le-zero p)
get_d_zip f (x ∷ xs) [] i d p q = absurd (not-suc-le-zero q)
get_d_zip f (x ∷ xs) (y ∷ ys) zero d p q = refl
get_d_zip f (x ∷ xs) (y ∷ ys) (suc i) d p q = get_d_zip f xs ys i d (le_of_suc-le-suc p) (le_of_suc-le-suc q)

-- element i of the results, from what the code picked
pub pair-at : (f : ℕ → ℕ → OrTrap ℕ) {n : ℕ} {a b : List ℕ} {i x y : ℕ} → Operands a b n → i < n
    → x ≡ get_or (spread n a) i 0 → y ≡ get_or (spread n b) i 0 → Element (zip f (spread n a) (spread n b)) i (f x y)
pair-at f {n} {a} {b} {i} {x} {y} o h p q =
    record {
      below = rw (length_pairs f o) h;
      is = get_d_zip f (spread n a) (spread n b) i (trap 0 0) (rw (length-spread n a o.first.fits) h) (rw (length-spread n b o.second.fits) h) ∙ rw (p, q);
    }

pub spans-below : {n i : ℕ} {a : List ℕ} → Spans n a → i < n → (length a ≡ 1 → ⊥) → i < length a
spans-below s h e = omega (arith, s.fits e)

pub spread-one : (n i : ℕ) (a : List ℕ) → length a ≡ 1 → i < n → get_or a 0 0 ≡ get_or (spread n a) i 0
spread-one n i a e h = rw (eq-eqb (length a) 1 e) (sym (get_or-replicate n i (get_or a 0 0) 0 h))

pub spread-all : (n i : ℕ) (a : List ℕ) → (length a ≡ 1 → ⊥) → get_or a i 0 ≡ get_or (spread n a) i 0
spread-all n i a e = rw (ne_eqb (length a) 1 e)

-- ---- one operand

length-each : {A : Type 0} (f : ℕ → A) (xs : List ℕ) → length (map f xs) ≡ length xs
length-each f [] = refl
length-each f (x ∷ xs) = ap suc (length-each f xs)

get_or-each : {A : Type 0} (f : ℕ → A) (xs : List ℕ) (i : ℕ) (d : A) → i < length xs → get_or (map f xs) i d ≡ f (get_or xs i 0)
get_or-each f [] i d h = absurd (not-suc-le-zero h)
get_or-each f (x ∷ xs) zero d h = refl
get_or-each f (x ∷ xs) (suc i) d h = get_or-each f xs i d (le_of_suc-le-suc h)

each_at : (f : ℕ → OrTrap ℕ) (a : List ℕ) (i : ℕ) → i < length a → Element (map f a) i (f (get_or a i 0))
each_at f a i h = record { below = rw (length-each f a) h; is = get_or-each f a i (trap 0 0) h }

-- The loop over them, which stops at the first trap.
pub record EachSoFar (f : ℕ → OrTrap ℕ) (a out₀ out : List ℕ) (i : ℕ) : Type 0 where
  pub exact : Exact (map f a) (length a) out₀ out i

pub each_start : {f : ℕ → OrTrap ℕ} {a out : List ℕ} → length a ≤ length out → EachSoFar f a out out 0
each_start {f} {a} h = record { exact = exact-start (length-each f a) h }

module _ {f : ℕ → OrTrap ℕ} {a out₀ out : List ℕ} {i : ℕ} (inv : EachSoFar f a out₀ out i) where
  pub each-trap : {c k : ℕ} → i < length a → f (get_or a i 0) ≡ trap c k → trap c k ≡ each f a
  unfolding each
  each-trap h e = exact-trap inv.exact (each_at f a i h) e

  pub each_on : {w : ℕ} → i < length a → f (get_or a i 0) ≡ gives w → EachSoFar f a out₀ (set out i w) (i + 1)
  each_on h e = record { exact = exact_word inv.exact (each_at f a i h) e }

  pub each-end : i ≡ length a → gives (take (length a) out) ≡ each f a
  unfolding each
  each-end all = exact-end inv.exact all

-- ---- the results of a whole loop

-- The results of n pairs are those of the operands.
pub pairs-are : (f : ℕ → ℕ → OrTrap ℕ) {n : ℕ} {a b : List ℕ} → Operands a b n → collect (zip f (spread n a) (spread n b)) ≡ pairwise f a b
unfolding pairwise
pairs-are f {n} {a} {b} o = ap (λ (k : ℕ). collect (zip f (spread k a) (spread k b))) o.count

-- operands that are paired serve as many results as they extend to
pub operands : {a b : List ℕ} {n : ℕ} → Paired a b → n ≡ extent a b → Operands a b n
operands {a} {b} {n} p e = record { count = e; first = record { fits = λ h. first h }; second = record { fits = λ h. second h (is_single a) refl } }
  where
    first : (length a ≡ 1 → ⊥) → length a ≡ n
    first h = sym (e ∙ rw (ne_eqb (length a) 1 h))

    second : (length b ≡ 1 → ⊥) → (t : Bool) → is_single a ≡ t → length b ≡ n
    second h true t = sym (e ∙ rw t)
    second h false t = sym (e ∙ rw t (p.fits (eqb-false (length a) 1 t) h))
