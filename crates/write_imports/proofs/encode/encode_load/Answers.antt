use Rattle.write_imports.proofs.Writing.{wrote, load-front}
use Rattle.write_imports.proofs.encode.encode_load.Goals as goal

pub returns-clause-out_after : goal.returns-clause-out_after
returns-clause-out_after c =
    (load-front _ c.args.lengths.now c.args.ravel.now _
    (wrote c.write_numbers-a.ensures.out_after c.write_numbers-a.ensures.value.0)
    (wrote c.write_numbers-b.ensures.out_after c.write_numbers-b.ensures.value.0)
    (wrote c.write_numbers.ensures.out_after c.write_numbers.ensures.value.0)
    c.requires.1).0
