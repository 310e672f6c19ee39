use Rattle.segment.proofs.stack.code_word.Goals as goal

pub returns : goal.returns
returns c = cc
