use Rattle.engine.proofs.run.run_with.Goals as goal

pub returns : goal.returns
returns c = let told = c.run_tallied.ensures in record { seg_after = told.seg_after; promised = told.promised }
