use Rattle.std.proofs.Common.{◌≡◌, ap, sym, subst, ◌∙◌}
use Rattle.tally.specs.Counts.{added, counts_of}
use Rattle.tally.specs.declared.Tally.{Tally}
use Rattle.manual.specs.Program.{program}
use Rattle.operations.specs.Answers.{stopped}
use Rattle.operations.specs.Replay.{replay, replayed}
use Rattle.audit.proofs.Replay.{promised-replay}
use Rattle.replay.proofs.replay.Goals as goal

-- The tally of no counts, and what was counted added to it.
pub returns : goal.returns
returns c =
    let a = c.args in
    let lent = program a.regular.now a.alternate.now a.table.now in
    let week = c.replay_all-week.result in
    let words = c.replay_all-week.new.seg in
    let told : replay (stopped week.answer) words (counts_of c.add.new.self) ≡ replayed a.seg.now lent a.file.now =
    subst (λ (t : Tally). replay (stopped week.answer) words (counts_of t) ≡ replayed a.seg.now lent a.file.now)
    (sym (c.add.ensures ∙ ap (λ (none : Tally). added none week.tally) c.zero.ensures))
    c.replay_all-week.ensures in
    record {
      tally_after = told;
      promised_replay = promised-replay a.seg.now lent a.file.now (stopped week.answer) words (counts_of c.add.new.self) told;
    }
