-- Bytes that stand at a place of a file.
use Prim.Native.Nat.{ℕ, suc, ◌+◌, ◌<◌, ◌≤◌}
use native.Mathlib.Nat.{add-sub_cancel_left}
use native.Mathlib.Numerals.{add-one}
use native.Mathlib.Omega.{arith}
use mathlib.Core.Path.{◌≡◌, refl, sym, ap}
use mathlib.Core.List.{List, [], ◌∷◌, ◌++◌, append_assoc}
use lib.ListN.{length, get_or, take, drop, length-append}
use lib.Seq.{drop-cons, get_or-append_seam}
use Rattle.imports.specs.Theorems.{between}

abbrev Stands : List ℕ → ℕ → List ℕ → Type 0
Stands file place [] = place ≤ length file
Stands file place (b ∷ bytes) = (place < length file) × (get_or file place 0 ≡ b) × Stands file (place + 1) bytes

-- from one place up to another
pub record Fills (file : List ℕ) (place next : ℕ) (bytes : List ℕ) : Type 0 where
  stands : Stands file place bytes
  pub end : next ≡ place + length bytes

pub fills-none : {file : List ℕ} {place : ℕ} → place ≤ length file → Fills file place place []
fills-none inside = record { stands = inside; end = omega arith }

pub fills_one : {file : List ℕ} {place next b : ℕ} {bytes : List ℕ} → place < length file → get_or file place 0 ≡ b → Fills file (place + 1) next bytes
    → Fills file place next (b ∷ bytes)
fills_one inside byte rest = record { stands = (inside, byte, rest.stands); end = omega (arith, rest.end) }

module _ {file : List ℕ} {place next b : ℕ} {bytes : List ℕ} (fills : Fills file place next (b ∷ bytes)) where
  pub first-inside : place < length file
  first-inside = fills.stands.0

  pub first_byte : b ≡ get_or file place 0
  first_byte = sym fills.stands.1

  pub next-bytes : Fills file (place + 1) next bytes
  next-bytes = record { stands = fills.stands.2; end = omega (arith, fills.end) }

-- ---- one part after the other

module _ (file : List ℕ) where
  moved : (bytes : List ℕ) (place other : ℕ) → place ≡ other → Stands file place bytes → Stands file other bytes
  moved bytes place other same stands = rw same at stands

  first_part : (some others : List ℕ) (place : ℕ) → Stands file place (some ++ others) → Stands file place some
  first_part [] [] place stands = stands
  first_part [] (b ∷ others) place stands = omega arith
  first_part (b ∷ some) others place stands = (stands.0, stands.1, first_part some others (place + 1) stands.2)

  second-part : (some others : List ℕ) (place : ℕ) → Stands file place (some ++ others) → Stands file (place + length some) others
  second-part [] others place stands = moved others place (place + 0) (omega arith) stands
  second-part (b ∷ some) others place stands =
      moved others (place + 1 + length some) (place + suc (length some)) (omega arith) (second-part some others (place + 1) stands.2)

  both-parts : (some others : List ℕ) (place : ℕ) → Stands file place some → Stands file (place + length some) others → Stands file place (some ++ others)
  both-parts [] others place stands follow = moved others (place + 0) place (omega arith) follow
  both-parts (b ∷ some) others place stands follow =
      (stands.0, stands.1, both-parts some others (place + 1) stands.2 (moved others (place + suc (length some)) (place + 1 + length some) (omega arith) follow))

  module _ (some others : List ℕ) (place next : ℕ) (fills : Fills file place next (some ++ others)) where
    pub first-fills : Fills file place (place + length some) some
    first-fills = record { stands = first_part some others place fills.stands; end = refl }

    pub second-fills : Fills file (place + length some) next others
    second-fills = record { stands = second-part some others place fills.stands; end = omega (arith, fills.end, length-append some others) }

  pub both-fill : {some others : List ℕ} {place middle next : ℕ} → Fills file place middle some → Fills file middle next others → Fills file place next (some ++ others)
  both-fill {some} {others} {place} {middle} first second =
      record {
        stands = both-parts some others place first.stands (moved others middle (place + length some) first.end second.stands);
        end = omega (arith, first.end, second.end, length-append some others);
      }

  -- ---- it is what lies between its ends

  stands-inside : (bytes : List ℕ) (place : ℕ) → Stands file place bytes → place + length bytes ≤ length file
  stands-inside [] place stands = omega arith
  stands-inside (b ∷ bytes) place stands = omega (arith, stands-inside bytes (place + 1) stands.2)

  taken : (bytes : List ℕ) (place : ℕ) → Stands file place bytes → take (length bytes) (drop place file) ≡ bytes
  taken [] place stands = refl
  taken (b ∷ bytes) place stands =
      rw (drop-cons file place 0 stands.0, stands.1)
      (ap (λ (rest : List ℕ). b ∷ rest) (rw (add-one place) at (taken bytes (place + 1) stands.2)))

  module _ {place next : ℕ} {bytes : List ℕ} (fills : Fills file place next bytes) where
    pub fills-inside : next ≤ length file
    fills-inside = omega (arith, fills.end, stands-inside bytes place fills.stands)

    pub fills-between : between file place next ≡ bytes
    fills-between = rw (fills.end, add-sub_cancel_left) (taken bytes place fills.stands)

-- ---- where it was put

seam : (before : List ℕ) (b : ℕ) (bytes after : List ℕ) → before ++ ((b ∷ bytes) ++ after) ≡ (before ++ (b ∷ [])) ++ (bytes ++ after)
seam before b bytes after = sym (append_assoc before (b ∷ []) (bytes ++ after))

put : (bytes before after : List ℕ) → Stands (before ++ (bytes ++ after)) (length before) bytes
put [] before after = rw (length-append before after) (omega arith)
put (b ∷ bytes) before after = (
  rw (length-append before (b ∷ (bytes ++ after))) (omega arith),
  get_or-append_seam before b (bytes ++ after) 0,
  rest (before ++ ((b ∷ bytes) ++ after)) (seam before b bytes after) (length before + 1) (length-append before (b ∷ [])) (put bytes (before ++ (b ∷ [])) after),
)
  where
    rest : (file : List ℕ) → file ≡ (before ++ (b ∷ [])) ++ (bytes ++ after) → (place : ℕ) → length (before ++ (b ∷ [])) ≡ place
        → Stands ((before ++ (b ∷ [])) ++ (bytes ++ after)) (length (before ++ (b ∷ []))) bytes → Stands file place bytes
    rest file e place l stands = rw (e, ← l) stands

pub fills-put : (bytes before after : List ℕ) → Fills (before ++ (bytes ++ after)) (length before) (length before + length bytes) bytes
fills-put bytes before after = record { stands = put bytes before after; end = refl }
