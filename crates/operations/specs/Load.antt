-- Load: a value into a global. Document 01's table: 10–18, then 21, 23, 24; "Load releases the old value last"; decision 14.
-- Assumes nothing.
use Rattle.std.specs.Prelude.{ℕ, Bool, cond, not, ◌&&◌, List, leb, ltb, eqb, length}
use Rattle.descriptor.specs.Kinds.{is_scalar}
use Rattle.segment.specs.State.{blockptr}
use Rattle.segment.specs.Blocks.{product, need}
use Rattle.acceptance.specs.Refusal.{refusal}
use Rattle.manual.specs.Values.{any, first}
use Rattle.manual.specs.Effects.{Source, word, made}
use Rattle.effects.specs.Perform.{none_for, store_at}

-- Test 21: globals stand from 8 to BLOCKPTR−1.
unfoldable pub is_global : List ℕ → ℕ → Bool
is_global s g = leb 8 g && ltb g (blockptr s)

-- Test 23: "rank above 15, length above 65,535, count differing from the product, or a word no scalar; rank 0 is one scalar".
unfoldable pub is_value : List ℕ → List ℕ → Bool
is_value lengths ravel =
    leb (length lengths) 15
    && not (any (λ l. ltb 65535 l) lengths)
    && not (any (λ w. not (is_scalar w)) ravel)
    && eqb (product lengths) (length ravel)

abbrev pub source_of : List ℕ → List ℕ → Source
source_of lengths ravel = cond (eqb (length lengths) 0) (word (first ravel)) (made lengths ravel)

-- Test 24: a scalar needs no storage.
unfoldable pub lacks_room : List ℕ → List ℕ → List ℕ → Bool
lacks_room s lengths ravel = ltb 0 (length lengths) && none_for s (need lengths ravel)

unfoldable pub load_refusal : List ℕ → List ℕ → List ℕ → ℕ → List ℕ → List ℕ → ℕ
load_refusal s regular alternate g lengths ravel =
    cond (eqb (refusal s regular alternate) 0)
    (cond (is_global s g) (cond (is_value lengths ravel) (cond (lacks_room s lengths ravel) 24 0) 23) 21)
    (refusal s regular alternate)

-- The segment after a load.
unfoldable pub loaded : List ℕ → List ℕ → List ℕ → ℕ → List ℕ → List ℕ → List ℕ
loaded s regular alternate g lengths ravel =
    cond (eqb (load_refusal s regular alternate g lengths ravel) 0) (store_at s g (source_of lengths ravel)) s
