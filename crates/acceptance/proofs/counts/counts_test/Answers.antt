use mathlib.Core.Path.{◌∙◌}
use borrow.Author.Rules.{rules}
use Rattle.acceptance_storage.specs.Blocks.{array_starts}
use Rattle.acceptance.proofs.Compared.{counts-are}
use Rattle.acceptance.proofs.counts.counts_test.Goals as goal

pub counts_from-requires : goal.counts_from-requires
unfolding array_starts
counts_from-requires c = (
  search rules,
  rw (c.number-2.ensures, c.dummy.ensures.result_value, c.number.ensures, c.blockptr.ensures)
      c.requires,
)

pub returns : goal.returns
returns c = c.counts_from.ensures ∙ counts-are _ _ _ (c.number.ensures ∙ c.blockptr.ensures)
    (c.number-2.ensures ∙ c.dummy.ensures.result_value)
