-- The results of the scalar operators fit where their operands do.
use Rattle.std.proofs.Common.{Ok, Err}
use Prim.Native.Nat.{ℕ, zero, suc, ◌≤◌}
use mathlib.Core.Path.{◌≡◌, refl, sym, ◌∙◌, ap}
use mathlib.Core.Bool.{Bool, true, false, cond, not, ◌&&◌}
use mathlib.Core.List.{List, [], ◌∷◌, map}
use mathlib.Core.Logic.{◌⊎◌, inl, inr, ⊎_elim}
use native.Mathlib.Omega.{arith}
use lib.Dec.{ltb, eqb}
use lib.ListN.{length, replicate, length-replicate}
use borrow.Author.Tests.{eqb-true, eqb-false, eq-eqb, ne_eqb, not-false}
use Rattle.operator.specs.declared.Monadic.{Monadic}
use Rattle.operator.specs.declared.Dyadic.{Dyadic}
use Rattle.scalar.specs.Results.{Answer}
use Rattle.scalar.specs.Operators.{monadic_of, dyadic_of}
use Rattle.segment.specs.Blocks.{product}
use Rattle.manual.specs.OrTrap.{OrTrap}
use Rattle.manual.specs.Values.{Value, size, is_single, first, same, answered, collect, each, monadic, conform, spread, zip, extent, pairwise, dyadic}
use Rattle.manual.proofs.Tests.{both_hold}
use Rattle.manual.proofs.Elements.{same_lists}
use Rattle.scalar_theorems.specs.Validity.{Valid}
use Rattle.scalar_theorems.proofs.Validity.{valid-results}
use Rattle.plan_theorems.proofs.Given.{Given, passed, chained, both}
use Rattle.plan_theorems.proofs.Lists.{All, all_replicate, all-get_or}
use Rattle.plan_theorems.proofs.Values.{Length, valid-length, ValueFits}

-- ---- elements

-- So many elements that have a property.
abbrev pub Elements : (ℕ → Type 0) → ℕ → List ℕ → Type 0
Elements P n ravel = All P ravel × (length ravel ≡ n)

answered-fits : (P : ℕ → Type 0) (x : Answer) → ((w : ℕ) → x ≡ Ok w → P w) → Given P (answered x)
answered-fits P (Ok w) h = h w refl
answered-fits P (Err t) h = tt

-- one more result before others
collect-more : (P : ℕ → Type 0) (n : ℕ) (x : OrTrap ℕ) (xs : List (OrTrap ℕ)) → Given P x → Given (Elements P n) (collect xs) → Given (Elements P (suc n)) (collect (x ∷ xs))
collect-more P n x xs h k =
    chained P (Elements P (suc n)) x _ h (λ w p.
    chained (Elements P n) (Elements P (suc n)) (collect xs) _ k (λ ws q. ((p, q.0), ap suc q.1)))

pub collect-map : (P Q : ℕ → Type 0) (f : ℕ → OrTrap ℕ) → ((w : ℕ) → P w → Given Q (f w)) → (l : List ℕ) → All P l → Given (Elements Q (length l)) (collect (map f l))
collect-map P Q f h [] k = (tt, refl)
collect-map P Q f h (x ∷ l) k = collect-more Q (length l) (f x) (map f l) (h x k.0) (collect-map P Q f h l k.1)

collect-zip : (P : ℕ → Type 0) (f : ℕ → ℕ → OrTrap ℕ) → ((x y : ℕ) → P x → P y → Given P (f x y)) → (n : ℕ) (l m : List ℕ) → Elements P n l → Elements P n m
    → Given (Elements P n) (collect (zip f l m))
collect-zip P f h n [] m k q = (tt, k.1)
collect-zip P f h n (x ∷ l) [] k q = absurd (omega (arith, k, q))
collect-zip P f h zero (x ∷ l) (y ∷ m) k q = absurd (omega (arith, k))
collect-zip P f h (suc n) (x ∷ l) (y ∷ m) k q =
    collect-more P n (f x y) (zip f l m) (h x y k.0.0 q.0.0) (collect-zip P f h n l m (k.0.1, omega (arith, k)) (q.0.1, omega (arith, q)))

-- ---- GENSCALAR

pub monadic-fits : (op : Monadic) (v : Value) → ValueFits v → Given ValueFits (monadic op v)
unfolding monadic each
monadic-fits op v h =
    chained (Elements Valid (length v.ravel)) ValueFits (each (λ w. answered (monadic_of op w)) v.ravel) _
    (collect-map Valid Valid (λ w. answered (monadic_of op w)) (λ w k. answered-fits Valid (monadic_of op w) (λ r e. valid-results.monadic op w r k e)) v.ravel h.scalars)
    (λ ravel k. record { rank = h.rank; size = h.size ∙ sym k.1; lengths = h.lengths; scalars = k.0 })

-- The shape of a result, and both operands repeated to its number of elements.
record Conforms (a b : Value) (shape : List ℕ) : Type 0 where
  rank : length shape ≤ 15
  lengths : All Length shape
  size : product shape ≡ extent a.ravel b.ravel
  left : (length a.ravel ≡ 1) ⊎ (length a.ravel ≡ extent a.ravel b.ravel)
  right : (length b.ravel ≡ 1) ⊎ (length b.ravel ≡ extent a.ravel b.ravel)

extent-left : (a b : List ℕ) → length a ≡ 1 → extent a b ≡ length b
extent-left a b h = rw (eq-eqb (length a) 1 h)

extent-right : (a b : List ℕ) → (length a ≡ 1 → ⊥) → extent a b ≡ length a
extent-right a b h = rw (ne_eqb (length a) 1 h)

module _ (a b : Value) (h : ValueFits a) (k : ValueFits b) where
  either : (t : Bool) → length a.ravel ≡ 1 → (t ≡ true → length b.ravel ≡ 1) → Conforms a b (cond t a.shape b.shape)
  either true e f =
      let n = extent-left a.ravel b.ravel e in
      record { rank = h.rank; lengths = h.lengths; size = omega (arith, h.size, e, n, f refl); left = inl e; right = inr (sym n) }
  either false e f =
      let n = extent-left a.ravel b.ravel e in
      record { rank = k.rank; lengths = k.lengths; size = k.size ∙ sym n; left = inl e; right = inr (sym n) }

  longer : (length a.ravel ≡ 1 → ⊥) → (length b.ravel ≡ 1) ⊎ (length b.ravel ≡ length a.ravel) → Conforms a b a.shape
  longer e f =
      let n = extent-right a.ravel b.ravel e in
      record {
        rank = h.rank;
        lengths = h.lengths;
        size = h.size ∙ sym n;
        left = inr (sym n);
        right = ⊎_elim (λ q. inl q) (λ q. inr (q ∙ sym n)) f;
      }

  alike : same a.shape b.shape ≡ true → length b.ravel ≡ length a.ravel
  alike e = sym k.size ∙ ap product (sym (same_lists a.shape b.shape e)) ∙ h.size

  conform-fits : Given (Conforms a b) (conform a.shape (size a) b.shape (size b))
  unfolding conform
  conform-fits =
      both (Conforms a b) (eqb (size a) 1) _ _
      (λ e. either (eqb (size b) 1 && ltb (length b.shape) (length a.shape)) (eqb-true _ _ e) (λ q. eqb-true _ _ (both_hold (eqb (size b) 1) _ q).0))
      (λ e. both (Conforms a b) (eqb (size b) 1) _ _ (λ f. longer (eqb-false _ _ e) (inl (eqb-true _ _ f)))
      (λ f. passed (Conforms a b) (not (eqb (length a.shape) (length b.shape))) 5 0 _ (λ r.
      passed (Conforms a b) (not (same a.shape b.shape)) 6 0 _ (λ q. longer (eqb-false _ _ e) (inr (alike (not-false _ q)))))))

spread-fits : (n : ℕ) (l : List ℕ) → (length l ≡ 1) ⊎ (length l ≡ n) → All Valid l → Elements Valid n (spread n l)
spread-fits n l h k = go (is_single l) refl
  where
    go : (t : Bool) → is_single l ≡ t → Elements Valid n (cond t (replicate n (first l)) l)
    go true e = (all_replicate Valid n (first l) (all-get_or Valid l 0 (valid-length 0 (omega arith)) k), length-replicate n (first l))
    go false e = (k, ⊎_elim (λ q. absurd (eqb-false (length l) 1 e q)) (λ q. q) h)

pub dyadic-fits : (op : Dyadic) (a b : Value) → ValueFits a → ValueFits b → Given ValueFits (dyadic op a b)
unfolding dyadic pairwise
dyadic-fits op a b h k =
    chained (Conforms a b) ValueFits (conform a.shape (size a) b.shape (size b)) _ (conform-fits a b h k) (λ shape c.
    let n = extent a.ravel b.ravel in
    chained (Elements Valid n) ValueFits (collect (zip (λ x y. answered (dyadic_of op x y)) (spread n a.ravel) (spread n b.ravel))) _
    (collect-zip Valid (λ x y. answered (dyadic_of op x y)) (λ x y p q. answered-fits Valid (dyadic_of op x y) (λ r e. valid-results.dyadic op x y r p q e)) n
    (spread n a.ravel) (spread n b.ravel) (spread-fits n a.ravel c.left h.scalars) (spread-fits n b.ravel c.right k.scalars))
    (λ ravel r. record { rank = c.rank; size = c.size ∙ sym r.1; lengths = c.lengths; scalars = r.0 }))
