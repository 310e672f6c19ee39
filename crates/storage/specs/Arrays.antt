-- Arrays placed, shared and dropped. Decisions 26–31 of docs/DECISIONS.md say which words are written and which keep what
-- they held. Assumes nothing.
use Rattle.std.specs.Prelude.{ℕ, zero, suc, ◌+◌, ◌-◌, ◌*◌, ◌%◌, ◌^◌, cond, List, length, ◌==◌, slice_index, slice_set}
use Rattle.std.proofs.lemmas.List.Edits.{sets}
use Rattle.descriptor.specs.Fields.{is_array, address}
use Rattle.segment.specs.Blocks.{count_at, need}
use Rattle.storage.specs.Request.{request, request_at}
use Rattle.storage.specs.Release.{release}

-- The words of an array of count 1 in the block at `a`: count and rank, the lengths; and the elements after them.
abbrev pub head : List ℕ → ℕ → List ℕ → List ℕ
head s a shape = sets (slice_set s (a + 1) (1 * 2 ^ 16 + length shape)) (a + 2) shape

unfoldable pub fill : List ℕ → ℕ → List ℕ → List ℕ → List ℕ
fill s a shape elements = sets (head s a shape) (a + 2 + length shape) elements

-- A new array: a request, and the block given is filled. The segment stays as it is where no block is found.
unfoldable pub place_at : List ℕ → List ℕ → List ℕ → ℕ
place_at s shape elements = request_at s (need shape elements)

unfoldable pub place : List ℕ → List ℕ → List ℕ → List ℕ
place s shape elements =
    cond (place_at s shape elements == 0) s
    (fill (request s (need shape elements)) (place_at s shape elements) shape elements)

-- One cell more points to the array at `a`; and one less, which frees it where it was the last.
unfoldable pub raise : List ℕ → ℕ → List ℕ
raise s a = slice_set s (a + 1) ((slice_index s (a + 1) + 2 ^ 16) % 2 ^ 32)

unfoldable pub lower : List ℕ → ℕ → List ℕ
lower s a = cond (count_at s a == 1) (release s a) (slice_set s (a + 1) (slice_index s (a + 1) - 2 ^ 16))

-- The same of a cell's word: only an array's word has a count behind it.
unfoldable pub share : List ℕ → ℕ → List ℕ
share s w = cond (is_array w) (raise s (address w)) s

unfoldable pub drop_word : List ℕ → ℕ → List ℕ
drop_word s w = cond (is_array w) (lower s (address w)) s

-- The cells from `a + n - 1` down to `a` are dropped.
abbrev pub drop_words : ℕ → List ℕ → ℕ → List ℕ
drop_words zero s a = s
drop_words (suc n) s a = drop_words n (drop_word s (slice_index s (a + n))) a
