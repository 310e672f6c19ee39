use Rattle.std.proofs.Common.{rules, tests}
use Rattle.std.proofs.lemmas.Iterator.{YieldsList-from_slice}
use Rattle.std.proofs.lemmas.Iterator.Search.{any_from_yields_List}
use Rattle.scalar.specs.Reading.{whole_of}
use Rattle.manual.specs.Values.{is_fraction}
use Rattle.elements.proofs.kinds.any_fraction.Goals as goal

pub returns : goal.returns
returns c = any_from_yields_List (λ w. is_fraction (whole_of w)) _ _ _ c.any.ensures.ran (YieldsList-from_slice c.args.words.now cc) (λ x b q k. search (rules, tests))
