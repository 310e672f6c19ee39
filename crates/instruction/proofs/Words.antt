-- The words from the next word boundary on: where they lie in the code, and where not.
use mathlib.Core.Path.{◌≡◌}
use mathlib.Core.List.{List}
use Prim.Native.Nat.{ℕ, ◌+◌, ◌*◌, ◌≤◌, ◌<◌}
use lib.ListN.{length}
use borrow.Author.Tests.{lt-ltb, le-ltb}
use Rattle.std.proofs.Common.{Some, None}
use Rattle.instruction.specs.declared.cursor.Cursor.{Cursor}
use Rattle.instruction.specs.Reading.{boundary, cursor_at, fetch_words}

module _ (code : List ℕ) (c : Cursor) (count : ℕ) where
  pub words-outside : length code < boundary c.at + 4 * count → None ≡ fetch_words code c count
  unfolding fetch_words
  words-outside h = simp (lt-ltb (length code) (boundary c.at + 4 * count) h)

  pub words_inside : (first next : ℕ) → first ≡ boundary c.at → next ≡ boundary c.at + 4 * count → next ≤ length code
      → Some (cursor_at first, cursor_at next) ≡ fetch_words code c count
  unfolding fetch_words
  words_inside first next f n h = simp (f, n, le-ltb (length code) (boundary c.at + 4 * count) (rw n at h))
