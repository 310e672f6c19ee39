-- The plan of an instruction fits the segment that it was told from: where no trap of the manual's lists is given, every effect
-- has what it needs when its turn comes, whether or not its request is served, and only the first may ask for a block. So the
-- theorems about effects hold of every plan. Proved in proofs/Theorems. Assumes nothing.
use Rattle.std.specs.Prelude.{ℕ, ◌≡◌, List}
use Rattle.instruction.specs.declared.Instruction.{Instruction}
use Rattle.segment.specs.Lent.{Words}
use Rattle.manual.specs.OrTrap.{gives}
use Rattle.manual.specs.Effects.{Effect}
use Rattle.manual.specs.Seen.{variables_of}
use Rattle.manual.specs.Instructions.{Running, header_of, plan_of}
use Rattle.effects.specs.Seen.{seen}
use Rattle.effects.specs.Sound.{Sound}
use Rattle.effects.specs.Alike.{HasFrame}
use Rattle.effects.specs.Requests.{FirstFits, AllFit, OneRequest}

pub record Fitting (s : List ℕ) (es : List Effect) : Type 0 where
  pub first : FirstFits s es
  pub once : OneRequest es
  pub all : AllFit s es

pub record PlansFit : Type 0 where
  pub fitting : (s : List ℕ) → Sound s → Words s → (f : Running) → HasFrame s (variables_of (header_of f)) (header_of f).result
      → (i : Instruction) (next : ℕ) (es : List Effect) → plan_of f (seen s) i next ≡ gives es → Fitting s es
