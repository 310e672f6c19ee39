-- The results of SHAPE, RAVEL, CATENATE, INDEXGEN and RESHAPE fit where their operands do.
use Prim.Native.Nat.{ℕ, zero, suc, ◌+◌, ◌-◌, ◌^◌, ◌<◌, ◌≤◌}
use mathlib.Core.Path.{◌≡◌, refl, sym, ap, ap₂, ◌∙◌}
use mathlib.Core.Bool.{Bool, true, false, not, ◌&&◌, ◌||◌}
use mathlib.Core.List.{List}
use native.Mathlib.Omega.{arith}
use lib.Dec.{ltb, leb, eqb}
use lib.ListN.{length, length-append}
use borrow.Author.Tests.{ltb-false, leb-false, eqb-true, eq-eqb}
use Rattle.descriptor.specs.Fields.{is_character}
use Rattle.scalar.specs.declared.Whole.{Whole}
use Rattle.scalar.specs.declared.Whole.TheVariants as W
use Rattle.scalar.specs.Reading.{whole_of}
use Rattle.segment.specs.Blocks.{product}
use Rattle.manual.specs.OrTrap.{gives}
use Rattle.manual.specs.Values.{Value, vector, rank, size, is_single, first, any, each, short_of, shorts, single, shape_of, ravel_of, joined_shape, catenate, up_from, index_generator, repeated, cycle, reshape}
use Rattle.manual.proofs.Tests.{none-holds}
use Rattle.manual.proofs.Elements.{length-cycle}
use Rattle.manual.proofs.Joins.{joined-cases, rows-size}
use Rattle.scalar_theorems.specs.Validity.{Valid}
use Rattle.plan_theorems.proofs.Given.{AnyTrap, Given, passed, chained}
use Rattle.plan_theorems.proofs.Lists.{All, all_append, all_take, all-get_or, all_map}
use Rattle.plan_theorems.proofs.Values.{Length, valid-length, ValueFits, Stored}
use Rattle.plan_theorems.proofs.Operators.{Elements, collect-map}

pub vector-fits : (l : List ℕ) → length l < 2 ^ 16 → All Valid l → ValueFits (vector l)
vector-fits l n h = record { rank = omega arith; size = omega arith; lengths = (omega arith, tt); scalars = h }

pub shape-fits : (v : Value) → ValueFits v → ValueFits (shape_of v)
shape-fits v h = vector-fits v.shape (omega (arith, h.rank)) (all_map Length Valid valid-length v.shape h.lengths)

pub ravel-fits : (v : Value) → Stored v → ValueFits (ravel_of v)
ravel-fits v h = vector-fits v.ravel h.short h.fits.scalars

-- The shape of a join: its lengths, and as many elements as both operands have.
abbrev JoinedFits : List ℕ → List ℕ → List ℕ → Type 0
JoinedFits a b shape = ((length shape ≤ 15) × (product shape ≡ product a + product b)) × All Length shape

pub catenate-fits : (a b : Value) → ValueFits a → ValueFits b → Given ValueFits (catenate a b)
unfolding catenate
catenate-fits a b h k =
    chained (JoinedFits a.shape b.shape) ValueFits (joined_shape a.shape b.shape) _
    (joined-cases (JoinedFits a.shape b.shape) AnyTrap tt a.shape b.shape tt
    (λ few. ((omega arith, omega arith), (omega arith, tt)))
    (λ p q w few. ((omega arith, rows-size a.shape b.shape p q w), (omega arith, (all-get_or Length a.shape (length a.shape - 1) (omega arith) h.lengths, tt)))))
    (λ shape f. record {
      rank = f.0.0;
      size = f.0.1 ∙ ap₂ ◌+◌ h.size k.size ∙ sym (length-append a.ravel b.ravel);
      lengths = f.1;
      scalars = all_append Valid a.ravel b.ravel h.scalars k.scalars;
    })

-- ---- numbers read from scalars

short-fits : (x : Whole) → Given (λ n. n < 2 ^ 16) (short_of x)
short-fits (W.Number true n) = tt
short-fits (W.Number false n) = passed (λ (m : ℕ). m < 2 ^ 16) (leb (2 ^ 16) n) 8 5 _ (λ e. leb-false _ _ e)
short-fits W.Fraction = tt
short-fits W.Character = tt

up_fits : (k n : ℕ) → k + n ≤ 8388608 → Elements Valid n (up_from k n)
unfolding up_from
up_fits k zero h = (tt, refl)
up_fits k (suc n) h = let r = up_fits (suc k) n (omega arith) in ((valid-length k (omega arith), r.0), ap suc r.1)

pub index-fits : (origin : ℕ) (v : Value) → origin ≤ 1 → Given ValueFits (index_generator origin v)
unfolding index_generator
index-fits origin v h =
    chained (λ w. Unit {0}) ValueFits (single v) _ (passed (λ (w : ℕ). Unit {0}) (not (is_single v.ravel)) 6 0 (gives (first v.ravel)) (λ e. tt)) (λ w u.
    chained (λ n. n < 2 ^ 16) ValueFits (short_of (whole_of w)) _ (short-fits (whole_of w)) (λ n k.
    let r = up_fits origin n (omega arith) in vector-fits (up_from origin n) (omega (arith, r.1, k)) r.0))

-- ---- RESHAPE

repeated-all : (n : ℕ) (l : List ℕ) → All Valid l → All Valid (repeated n l)
repeated-all zero l h = tt
repeated-all (suc n) l h = all_append Valid l (repeated n l) h (repeated-all n l h)

cycle-all : (n : ℕ) (l : List ℕ) → All Valid l → All Valid (cycle n l)
unfolding cycle
cycle-all n l h = all_take Valid n (repeated n l) (repeated-all n l h)

-- elements are wanted only where there are some
some : (n m : ℕ) → (eqb n 0 && not (eqb m 0)) ≡ false → n ≡ 0 → m ≡ 0
some n m h e = go (eqb m 0) refl (rw (eq-eqb n 0 e) at h)
  where
    go : (t : Bool) → eqb m 0 ≡ t → not t ≡ false → m ≡ 0
    go true q k = eqb-true m 0 q
    go false q k = cc

pub reshape-fits : (a b : Value) → ValueFits a → ValueFits b → Given ValueFits (reshape a b)
unfolding reshape each
reshape-fits a b h k =
    passed ValueFits (ltb 1 (rank a) || ltb 15 (size a)) 5 0 _ (λ r.
    passed ValueFits (any is_character a.ravel) 7 0 _ (λ c.
    chained (Elements (λ n. n < 2 ^ 16) (size a)) ValueFits (shorts a.ravel) _
    (collect-map Valid (λ n. n < 2 ^ 16) (λ w. short_of (whole_of w)) (λ w u. short-fits (whole_of w)) a.ravel h.scalars) (λ lengths u.
    passed ValueFits (leb (2 ^ 16) (product lengths)) 8 5 _ (λ e.
    passed ValueFits (eqb (size b) 0 && not (eqb (product lengths) 0)) 6 0 _ (λ q.
    let n = length-cycle (product lengths) b.ravel (some (size b) (product lengths) q) in
    record {
      rank = omega (arith, u.1, ltb-false 15 (size a) (none-holds (ltb 1 (rank a)) (ltb 15 (size a)) r).1);
      size = sym n;
      lengths = all_map (λ w. w < 2 ^ 16) Length (λ w l. omega (arith, l)) lengths u.0;
      scalars = cycle-all (product lengths) b.ravel k.scalars;
    })))))
