-- Lists all of whose numbers have a property.
use Prim.Native.Nat.{ℕ, zero, suc, ◌^◌, ◌<◌}
use mathlib.Core.Path.{subst, sym}
use mathlib.Core.List.{List, [], ◌∷◌, ◌++◌}
use mathlib.Core.Logic.{⊎_elim}
use native.Mathlib.Omega.{arith}
use lib.ListN.{get_or, take, replicate}
use Rattle.segment.specs.Lent.{Words}
use Rattle.storage.specs.Heap.{count}
use Rattle.storage_theorems.proofs.Counts.{hit-cases, hit_same}

abbrev pub All : (ℕ → Type 0) → List ℕ → Type 0
All P [] = Unit {0}
All P (x ∷ l) = P x × All P l

module _ (P : ℕ → Type 0) where
  pub all-count : (l : List ℕ) → All P l → (w : ℕ) → 0 < count w l → P w
  all-count [] h w k = absurd (omega arith)
  all-count (x ∷ l) h w k =
      ⊎_elim (λ e. subst P (sym e.0) h.0) (λ e. all-count l h.1 w (omega (arith, e, k))) (hit-cases w x)

  pub count-all : (l : List ℕ) → ((w : ℕ) → 0 < count w l → P w) → All P l
  count-all [] h = tt
  count-all (x ∷ l) h = (h x (omega (arith, hit_same x)), count-all l (λ w k. h w (omega (arith, k))))

  pub all_append : (l m : List ℕ) → All P l → All P m → All P (l ++ m)
  all_append [] m h k = k
  all_append (x ∷ l) m h k = (h.0, all_append l m h.1 k)

  pub all_take : (n : ℕ) (l : List ℕ) → All P l → All P (take n l)
  all_take zero l h = tt
  all_take (suc n) [] h = tt
  all_take (suc n) (x ∷ l) h = (h.0, all_take n l h.1)

  pub all_replicate : (n w : ℕ) → P w → All P (replicate n w)
  all_replicate zero w h = tt
  all_replicate (suc n) w h = (h, all_replicate n w h)

  pub all-get_or : (l : List ℕ) (i : ℕ) → P 0 → All P l → P (get_or l i 0)
  all-get_or [] i z h = z
  all-get_or (x ∷ l) zero z h = h.0
  all-get_or (x ∷ l) (suc i) z h = all-get_or l i z h.1

pub all_map : (P Q : ℕ → Type 0) → ((w : ℕ) → P w → Q w) → (l : List ℕ) → All P l → All Q l
all_map P Q f [] h = tt
all_map P Q f (x ∷ l) h = (f x h.0, all_map P Q f l h.1)

pub words-all : (l : List ℕ) → All (λ w. w < 2 ^ 32) l → Words l
words-all l h i = all-get_or (λ (w : ℕ). w < 2 ^ 32) l i (omega arith) h
