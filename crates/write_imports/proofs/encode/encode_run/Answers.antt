use Rattle.write_imports.proofs.Writing.{wrote, run-front}
use Rattle.write_imports.proofs.encode.encode_run.Goals as goal

pub returns-clause-out_after : goal.returns-clause-out_after
returns-clause-out_after c = (run-front _ _ (wrote c.write_numbers.ensures.out_after c.write_numbers.ensures.value.0) c.requires).0
