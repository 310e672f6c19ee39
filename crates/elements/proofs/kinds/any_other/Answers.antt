use Rattle.std.proofs.Common.{rules, tests, not}
use Rattle.std.proofs.lemmas.Iterator.{YieldsList-from_slice}
use Rattle.std.proofs.lemmas.Iterator.Search.{any_from_yields_List}
use Rattle.descriptor.specs.Kinds.{is_scalar}
use Rattle.elements.proofs.kinds.any_other.Goals as goal

pub returns : goal.returns
returns c = any_from_yields_List (λ w. not (is_scalar w)) _ _ _ c.any.ensures.ran (YieldsList-from_slice c.args.words.now cc) (λ x b q k. search (rules, tests))
