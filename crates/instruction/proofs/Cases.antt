-- A read by cases: it is outside, or it finds bytes of the code and the cursor moves past them.
use mathlib.Core.Path.{◌≡◌, refl}
use mathlib.Core.Bool.{Bool, true, false, cond}
use mathlib.Core.List.{List}
use Prim.Native.Nat.{ℕ, ◌+◌, ◌*◌, ◌^◌, ◌≤◌, ◌<◌}
use native.Mathlib.Omega.{arith}
use lib.ListN.{length, get_or}
use lib.Dec.{ltb}
use borrow.Author.Tests.{ltb-true, ltb-false}
use Rattle.std.proofs.Common.{Option, Some, None}
use Rattle.instruction.specs.declared.cursor.Cursor.{Cursor}
use Rattle.instruction.specs.Reading.{boundary, cursor_at, fetch_byte, fetch_half, fetch_word, fetch_words, with_read}

module _ (code : List ℕ) (c : Cursor) where
  pub byte-cases : (P : Option (ℕ × Cursor) → Type 0) → (length code ≤ c.at → P None)
      → (c.at < length code → P (Some (get_or code c.at 0, cursor_at (c.at + 1)))) → P (fetch_byte code c)
  unfolding fetch_byte
  byte-cases P outside inside = on (ltb c.at (length code)) refl
    where
      on : (t : Bool) → ltb c.at (length code) ≡ t
          → P (cond t (Some (get_or code c.at 0, cursor_at (c.at + 1))) None)
      on true e = inside (ltb-true _ _ e)
      on false e = outside (ltb-false _ _ e)

  pub words-cases : (count : ℕ) (P : Option (Cursor × Cursor) → Type 0) → P None
      → (boundary c.at + 4 * count ≤ length code
      → P (Some (cursor_at (boundary c.at), cursor_at (boundary c.at + 4 * count))))
      → P (fetch_words code c count)
  unfolding fetch_words
  words-cases count P outside inside = on (ltb (length code) (boundary c.at + 4 * count)) refl
    where
      on : (t : Bool) → ltb (length code) (boundary c.at + 4 * count) ≡ t
          → P (cond t None (Some (cursor_at (boundary c.at), cursor_at (boundary c.at + 4 * count))))
      on true e = outside
      on false e = inside (ltb-false _ _ e)

pub half-cases : (code : List ℕ) (c : Cursor) (P : Option (ℕ × Cursor) → Type 0) → (length code ≤ c.at + 1 → P None)
    → ((v : ℕ) → c.at + 1 < length code → P (Some (v, cursor_at (c.at + 1 + 1)))) → P (fetch_half code c)
unfolding fetch_half
half-cases code c P outside inside =
    byte-cases code c
    (λ (x : Option (ℕ × Cursor)). P (with_read x None (λ high next. with_read (fetch_byte code next) None (λ low after. Some (high * 2 ^ 8 + low, after)))))
    (λ h. outside (omega arith))
    (λ h.
    byte-cases code (cursor_at (c.at + 1))
    (λ (x : Option (ℕ × Cursor)). P (with_read x None (λ low after. Some (get_or code c.at 0 * 2 ^ 8 + low, after))))
    outside
    (λ h₂. inside (get_or code c.at 0 * 2 ^ 8 + get_or code (c.at + 1) 0) h₂))

pub word-cases : (code : List ℕ) (c : Cursor) (P : Option (ℕ × Cursor) → Type 0) → (length code ≤ c.at + 1 + 1 + 1 → P None)
    → ((w : ℕ) → c.at + 1 + 1 + 1 < length code → P (Some (w, cursor_at (c.at + 1 + 1 + 1 + 1)))) → P (fetch_word code c)
unfolding fetch_word
word-cases code c P outside inside =
    half-cases code c
    (λ (x : Option (ℕ × Cursor)). P (with_read x None (λ high next. with_read (fetch_half code next) None (λ low after. Some (high * 2 ^ 16 + low, after)))))
    (λ h. outside (omega arith))
    (λ high h.
    half-cases code (cursor_at (c.at + 1 + 1))
    (λ (x : Option (ℕ × Cursor)). P (with_read x None (λ low after. Some (high * 2 ^ 16 + low, after))))
    outside
    (λ low h₂. inside (high * 2 ^ 16 + low) h₂))
