use mathlib.Core.Path.{◌∙◌, ap}
use Rattle.acceptance_storage.specs.Answer.{inside_test}
use Rattle.acceptance_storage.proofs.arrays.inside_test.Goals as goal

pub inside_at-requires : goal.inside_at-requires
inside_at-requires c = rw c.index.ensures c.requires

pub returns : goal.returns
returns c = c.inside_at.ensures ∙ ap (inside_test c.args.seg.now) c.index.ensures
