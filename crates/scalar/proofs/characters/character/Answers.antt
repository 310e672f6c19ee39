use Rattle.std.proofs.Common.{ℕ, ◌^◌, ap, ◌∙◌, arith, le-ltb, lt-ltb, Ok}
use Rattle.scalar.proofs.characters.character.Goals.{then-negative-via-then-negative, then-negative-via-else-negative+then-magnitude-gt255}
use Rattle.scalar.proofs.characters.character.Goals as goal

pub returns-then-negative : goal.returns-then-negative
returns-then-negative c = elim c.then-negative.branch [
  | then-negative-via-then-negative w ↦ simp w.if-negative.true
  | then-negative-via-else-negative+then-magnitude-gt255 w ↦ simp (w.if-negative.false, le-ltb c.args.magnitude (2 ^ 8) (omega (arith, w.if-magnitude-gt255.true)))
]

pub returns : goal.returns
returns c = simp (c.if-negative.false, lt-ltb c.args.magnitude (2 ^ 8) (omega arith)) (ap (λ (w : ℕ). Ok w) (c.word.ensures ∙ c.character.ensures))
