-- The theorem of specs/Kept.
use Prim.Native.Nat.{ℕ}
use mathlib.Core.Path.{◌≡◌}
use mathlib.Core.List.{List}
use Rattle.instruction.specs.declared.Instruction.{Instruction}
use Rattle.segment.specs.Cells.{Cell}
use Rattle.segment.specs.Machine.{Machine}
use Rattle.manual.specs.OrTrap.{gives}
use Rattle.manual.specs.Effects.{Effect}
use Rattle.manual.specs.Seen.{seen_of}
use Rattle.manual.specs.Instructions.{Running, plan_of}
use Rattle.legality.specs.Legal.{Legal}
use Rattle.legality.specs.Kept.{RunsIn, KeepsLegal, KeptTheorems}
use Rattle.legality.proofs.Steps.{all-kept}
use Rattle.legality.proofs.Plans.{plan-meets}

kept-theorem : {regular alternate : List ℕ} {f : Running} {m : Machine Cell} {es : List Effect} → Legal regular alternate m → RunsIn regular alternate f m
    → (words : ℕ) (i : Instruction) (next : ℕ) → plan_of f (seen_of words m) i next ≡ gives es → KeepsLegal regular alternate m es
kept-theorem {regular} {alternate} {f} {m} {es} g runs words i next e =
    all-kept regular alternate es m g (plan-meets g words f runs i next es e)

pub kept-theorems : KeptTheorems
kept-theorems = record { kept = kept-theorem }
