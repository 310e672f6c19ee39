-- Machines of cells: the same machine seen by a function, part by part.
use Prim.Native.Nat.{ℕ, zero, suc}
use mathlib.Core.Path.{◌≡◌, refl, ap}
use mathlib.Core.List.{List, [], ◌∷◌, ◌++◌, map}
use lib.ListN.{set, length, drop, replicate, length-map}
use Rattle.segment.specs.Machine.{Frame, map_frames, cells_of_frames}
use Rattle.manual.specs.Effects.{swapped, current_cells, older, jump_frames}

module _ {A B : Type 0} (f : A → B) where
  -- ---- lists

  pub map-drop : (k : ℕ) (l : List A) → map f (drop k l) ≡ drop k (map f l)
  map-drop zero l = refl
  map-drop (suc k) [] = refl
  map-drop (suc k) (c ∷ l) = map-drop k l

  pub map-set : (l : List A) (j : ℕ) (c : A) → map f (set l j c) ≡ set (map f l) j (f c)
  map-set [] zero c = refl
  map-set [] (suc j) c = refl
  map-set (d ∷ l) zero c = refl
  map-set (d ∷ l) (suc j) c = ap (λ (r : List B). f d ∷ r) (map-set l j c)

  pub map_swapped : (l : List A) → map f (swapped l) ≡ swapped (map f l)
  map_swapped [] = refl
  map_swapped (c ∷ []) = refl
  map_swapped (c ∷ d ∷ l) = refl

  pub map-run : (n : ℕ) (c : A) (l : List A) → map f (replicate n c ++ l) ≡ replicate n (f c) ++ map f l
  map-run zero c l = refl
  map-run (suc n) c l = ap (λ (r : List B). f c ∷ r) (map-run n c l)

  -- ---- frames

  pub map-jump : (place : ℕ) (l : List (Frame A)) → map_frames f (jump_frames place l) ≡ jump_frames place (map_frames f l)
  map-jump place [] = refl
  map-jump place (r ∷ l) = refl

  pub map-current : (l : List (Frame A)) → map f (current_cells l) ≡ current_cells (map_frames f l)
  map-current [] = refl
  map-current (r ∷ l) = refl

  pub current-map : (l : List (Frame A)) → length (current_cells (map_frames f l)) ≡ length (current_cells l)
  current-map [] = refl
  current-map (r ∷ l) = length-map r.cells f

  pub map-older : (l : List (Frame A)) → map_frames f (older l) ≡ older (map_frames f l)
  map-older [] = refl
  map-older (r ∷ l) = refl

pub jump-cells : {A : Type 0} (place : ℕ) (l : List (Frame A)) → cells_of_frames (jump_frames place l) ≡ cells_of_frames l
jump-cells place [] = refl
jump-cells place (r ∷ l) = refl
