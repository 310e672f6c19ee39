-- What a call is lent: a data segment of 32-bit words and procedure segments of bytes. In code the types say so; of lists it is
-- to be said. Assumes nothing.
use Rattle.std.specs.Prelude.{ℕ, ◌^◌, ◌<◌, List, get_or}

-- The words of a segment have 32 bits, as their type says in code. The sign of a longer one is no bit, and a result with it no scalar.
abbrev pub Words : List ℕ → Type 0
Words s = (i : ℕ) → get_or s i 0 < 2 ^ 32

abbrev pub Bytes : List ℕ → Type 0
Bytes p = (i : ℕ) → get_or p i 0 < 2 ^ 8

pub record Lent (s regular alternate : List ℕ) : Type 0 where
  pub words : Words s
  pub regular_bytes : Bytes regular
  pub other_bytes : Bytes alternate
