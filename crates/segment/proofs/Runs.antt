-- Runs of words: how long they are, which word stands where, and what an undefined one is seen as.
use Prim.Native.Nat.{ℕ, zero, suc, ◌+◌, ◌-◌, ◌≤◌, ◌<◌}
use mathlib.Core.Path.{◌≡◌, refl, ap}
use mathlib.Core.List.{List, [], ◌∷◌}
use native.Mathlib.Omega.{arith}
use lib.ListN.{length, get_or, length-map}
use Rattle.descriptor.specs.declared.Kind.TheVariants as K
use Rattle.descriptor.specs.Fields.{undefined_word}
use Rattle.descriptor.proofs.Inverse.{inverse}
use Rattle.segment.specs.Blocks.{part}
use Rattle.segment.specs.Stack.{downward}
use Rattle.segment.specs.Cells.{undefined, cell}
use Rattle.segment.specs.Machine.{Frame, depth_of_frames, map_frames}

pub part_length : (s : List ℕ) (a n : ℕ) → length (part s a n) ≡ n
part_length s a zero = refl
part_length s a (suc n) = ap suc (part_length s (a + 1) n)

pub get_d_part : (s : List ℕ) (a n i z : ℕ) → i < n → get_or (part s a n) i z ≡ get_or s (a + i) 0
get_d_part s a zero i z h = absurd (omega arith)
get_d_part s a (suc n) zero z h = let e : a + 0 ≡ a = omega arith in rw e
get_d_part s a (suc n) (suc i) z h = let e : a + suc i ≡ a + 1 + i = omega arith in rw e (get_d_part s (a + 1) n i z (omega arith))

pub part_same : (s s' : List ℕ) (a n : ℕ) → ((i : ℕ) → a ≤ i → i < a + n → get_or s' i 0 ≡ get_or s i 0) → part s' a n ≡ part s a n
part_same s s' a zero e = refl
part_same s s' a (suc n) e =
    let h : get_or s' a 0 ≡ get_or s a 0 = e a (omega arith) (omega arith) in
    let r : part s' (a + 1) n ≡ part s (a + 1) n = part_same s s' (a + 1) n (λ i l u. e i (omega arith) (omega arith)) in
    cc

pub downward-length : (s : List ℕ) (a n : ℕ) → length (downward s a n) ≡ n
downward-length s a zero = refl
downward-length s a (suc n) = ap suc (downward-length s a n)

pub get_or-downward : (s : List ℕ) (a n i z : ℕ) → i < n → get_or (downward s a n) i z ≡ get_or s (a + n - 1 - i) 0
get_or-downward s a zero i z h = absurd (omega arith)
get_or-downward s a (suc n) zero z h = let e : a + suc n - 1 - 0 ≡ a + n = omega arith in rw e
get_or-downward s a (suc n) (suc i) z h = let e : a + suc n - 1 - suc i ≡ a + n - 1 - i = omega arith in rw e (get_or-downward s a n i z (omega arith))

pub undefined-cell : (s : List ℕ) → cell s undefined_word ≡ undefined
unfolding cell
undefined-cell s = rw (inverse.read_back K.Undefined tt)

pub depth-map : {A B : Type 0} (f : A → B) (l : List (Frame A)) → depth_of_frames (map_frames f l) ≡ depth_of_frames l
depth-map f [] = refl
depth-map f (r ∷ l) = omega (arith, length-map r.cells f, depth-map f l)
