-- What holds of walking, as one record: a walk is what the reader's `next` answers again and again. Assumes nothing.
use Rattle.std.specs.Prelude.{◌^◌, ◌≤◌, ◌<◌, ◌≡◌, [], ◌∷◌, length}
use Rattle.reader.specs.declared.Reader.{Reader}
use Rattle.reader.specs.Walking.{with_end, read_once, walk_of}

pub record Walking : Type 0 where
  -- In the code: what is read, and after an instruction the walk of the reader that is left.
  pub reads_on : (r : Reader) → length r.code.now < 2 ^ 32 → r.place.0 < length r.code.now
      → walk_of r ≡ (r.place, (read_once r).0) ∷ with_end (read_once r).0 [] (λ end. walk_of (read_once r).1)
  -- At the end of the code: nothing.
  pub ends : (r : Reader) → length r.code.now ≤ r.place.0 → walk_of r ≡ []
