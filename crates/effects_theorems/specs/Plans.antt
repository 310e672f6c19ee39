-- The plan of an instruction, told from the words of a segment, is the plan told from its view: an instruction means what the
-- manual says of values, and storage has no part in it. Proved in proofs/Plans. Assumes nothing.
use Rattle.std.specs.Prelude.{ℕ, ◌-◌, ◌≡◌, List, length}
use Rattle.instruction.specs.declared.Instruction.{Instruction}
use Rattle.segment.specs.State.{sbase}
use Rattle.segment.specs.View.{view}
use Rattle.manual.specs.Seen.{variables_of, seen_of}
use Rattle.manual.specs.Instructions.{Running, header_of, plan_of, plan_at}
use Rattle.effects.specs.Seen.{seen}
use Rattle.effects.specs.Sound.{Sound}
use Rattle.effects.specs.Alike.{HasFrame}

pub record PlansTheorems : Type 0 where
  pub plan : (s : List ℕ) → Sound s → (f : Running) → HasFrame s (variables_of (header_of f)) (header_of f).result → (i : Instruction) (next : ℕ)
      → plan_of f (seen s) i next ≡ plan_of f (seen_of (length s - sbase s) (view s)) i next
  pub decoded : (s : List ℕ) → Sound s → (f : Running) → HasFrame s (variables_of (header_of f)) (header_of f).result → (place : ℕ)
      → plan_at f (seen s) place ≡ plan_at f (seen_of (length s - sbase s) (view s)) place
