-- The hash of words in order. A reader must believe nothing: it only tells segments apart. Assumes nothing.
use Rattle.std.specs.Prelude.{ℕ, ◌+◌, ◌*◌, ◌%◌, ◌≡◌, refl, List, [], ◌∷◌}

abbrev pub hash_step : ℕ → ℕ → ℕ
hash_step h w = (31 * h + w) % 4_294_967_291

abbrev pub hash_from : ℕ → List ℕ → ℕ
hash_from h [] = h
hash_from h (w ∷ ws) = hash_from (hash_step h w) ws

three : hash_from 0 (0xffff_ffff ∷ 1 ∷ 2 ∷ []) ≡ 31 * 125 + 2
three = refl

one-step : hash_step 0xffff_ffff 7 ≡ 131
one-step = refl
