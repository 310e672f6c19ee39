-- The theorems of specs/Bounded.
use Rattle.manual.specs.Seen.{variables_of}
use Rattle.manual.specs.Instructions.{header_of, code_in, plan_at}
use Rattle.instruction.specs.Decoding.{instruction_at}
use Rattle.effects.specs.Seen.{seen}
use Rattle.plan_theorems.proofs.Given.{given}
use Rattle.plan_theorems.proofs.Sees.{sees}
use Rattle.plan_theorems.specs.Bounded.{AllSmall, BoundedTheorems}
use Rattle.plan_theorems.proofs.BoundedEffects.{effect_words, effects-words}
use Rattle.plan_theorems.proofs.BoundedDecoding.{code-bytes, decoded-small}
use Rattle.plan_theorems.proofs.BoundedPlans.{planned-small}

pub bounded-theorems : BoundedTheorems
unfolding plan_at
bounded-theorems = record {
  effect = effect_words;
  effects = effects-words;
  plan = λ s g words f regular alternate runs place es e.
      given AllSmall (plan_at f (seen s) place) es
      (planned-small f (sees s g words (variables_of (header_of f)) (header_of f).result runs) (code-bytes f regular alternate)
      (instruction_at (code_in f) place) (decoded-small (code_in f) (code-bytes f regular alternate) place)) e;
}
