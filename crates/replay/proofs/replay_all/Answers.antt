use Prim.Native.Nat.{ℕ}
use mathlib.Core.Path.{ap, ◌∙◌}
use mathlib.Core.List.{List}
use borrow.Author.Rules.{rules}
use Rattle.tally.proofs.Laws.{counts-added}
use Rattle.operations.specs.Answers.{stopped}
use Rattle.operations.specs.Replay.{replay, replayed}
use Rattle.replay.proofs.replay_all.Goals as goal

pub returns : goal.returns
unfolding replayed
returns c = let p = c.replay_records-answer in
    let counted = counts-added c.of.result _ _ c.of.type_inv c.of.ensures (search rules) in
    ap (λ (counts : List ℕ). replay (stopped p.result) p.new.seg counts) counted ∙ p.ensures
