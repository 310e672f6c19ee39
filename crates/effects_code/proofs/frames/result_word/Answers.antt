use Rattle.effects_code.proofs.frames.result_word.Goals as goal

pub returns : goal.returns
returns c = rw (c.word.ensures, c.index.ensures, c.below.ensures)
