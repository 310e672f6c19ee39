use mathlib.Core.Path.{refl, ◌∙◌}
use native.Mathlib.Omega.{arith}
use Rattle.instructions_memory.proofs.Vectors.{word-written, words-written}
use Rattle.instructions_memory.proofs.loads.read_words.Goals as goal

pub loop-i-preserved : goal.loop-i-preserved
loop-i-preserved c = word-written _ _ _ c.loop-i.invariant refl _ (omega arith) c.word_at.ensures

pub returns : goal.returns
returns c = words-written _ _ _ c.loop-i.invariant refl (omega arith) ∙ rw c.number-start.ensures
