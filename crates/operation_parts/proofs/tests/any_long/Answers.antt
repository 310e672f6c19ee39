use Rattle.std.proofs.Common.{rules, tests, ◌∙◌}
use Rattle.std.proofs.lemmas.Iterator.{YieldsList-from_slice}
use Rattle.std.proofs.lemmas.Iterator.Search.{any_from_yields_List}
use lib.Dec.{ltb}
use Rattle.operation_parts.proofs.Products.{same-any}
use Rattle.operation_parts.proofs.tests.any_long.Goals as goal

pub returns : goal.returns
returns c =
    any_from_yields_List (λ l. ltb 65535 l) _ _ _ c.any.ensures.ran (YieldsList-from_slice c.args.lengths.now cc) (λ x b q k. search (rules, tests))
    ∙ same-any (λ l. ltb 65535 l) c.args.lengths.now
