-- The hash of words, taken word by word.
use Prim.Native.Nat.{ℕ, ◌+◌, ◌<◌}
use native.Mathlib.Numerals.{add-one}
use mathlib.Core.Path.{◌≡◌}
use mathlib.Core.List.{List}
use lib.ListN.{length, get_or, drop}
use lib.Seq.{drop-cons, drop-length}
use Rattle.line_tool.specs.Hash.{hash_step, hash_from}

-- h is the hash of the first i words
pub record Hashed (words : List ℕ) (h i : ℕ) : Type 0 where
  pub so_far : hash_from h (drop i words) ≡ hash_from 0 words

pub hash-on : {words : List ℕ} {h i r : ℕ} → Hashed words h i → i < length words → r ≡ hash_step h (get_or words i 0) → Hashed words r (i + 1)
hash-on {words} {h} {i} f l e = record { so_far = rw (e, add-one i) (rw (drop-cons words i 0 l) at f.so_far) }

pub hash-all : {words : List ℕ} {h i : ℕ} → Hashed words h i → i ≡ length words → h ≡ hash_from 0 words
hash-all {words} f e = rw (e, drop-length words) at f.so_far
