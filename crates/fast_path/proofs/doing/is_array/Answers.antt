use Rattle.fast_path.proofs.doing.is_array.Goals as goal

pub returns : goal.returns
returns c = cc
