use Rattle.std.proofs.Common.{rules, tests}
use Rattle.std.proofs.lemmas.Iterator.{YieldsList-from_slice}
use Rattle.std.proofs.lemmas.Iterator.Search.{any_from_yields_List}
use Rattle.descriptor.specs.Fields.{is_character}
use Rattle.elements.proofs.kinds.any_character.Goals as goal

pub returns : goal.returns
returns c = any_from_yields_List is_character _ _ _ c.any.ensures.ran (YieldsList-from_slice c.args.words.now cc) (λ x b q k. search (rules, tests))
