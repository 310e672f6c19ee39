-- What a lay out that returns 0 leaves: an accepted segment, all undefined, with one frame. Proved in proofs/Fresh. Assumes
-- nothing.
use Rattle.std.specs.Prelude.{ℕ, ◌+◌, ◌*◌, ◌^◌, ◌≡◌, List, [], ◌∷◌, replicate}
use Rattle.segment.specs.Cells.{Cell, undefined}
use Rattle.segment.specs.Machine.{Machine}
use Rattle.segment.specs.View.{view}
use Rattle.acceptance.specs.Structure.{Accepted}
use Rattle.fresh_segment.specs.LayOut.{Layout, locals_of, lay_out_refusal, laid_out}

-- The view of a fresh segment: all undefined, one frame, at the start of its function's code.
abbrev pub fresh_view : ℕ → Layout → Machine Cell
fresh_view locals l =
    record {
      flags = 0;
      temporaries = [];
      frames = record { function = l.selector * 2 ^ 11 + l.function; pctr = 8; cells = replicate locals undefined } ∷ [];
      globals = replicate l.globals undefined;
    }

pub record FreshTheorem : Type 0 where
  pub accepted : (s regular alternate : List ℕ) (l : Layout) → lay_out_refusal s regular alternate l ≡ 0
      → Accepted (laid_out s regular alternate l) regular alternate
  pub seen : (s regular alternate : List ℕ) (l : Layout) → lay_out_refusal s regular alternate l ≡ 0
      → view (laid_out s regular alternate l) ≡ fresh_view (locals_of regular alternate l) l
