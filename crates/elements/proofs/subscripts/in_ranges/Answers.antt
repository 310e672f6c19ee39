use Rattle.std.proofs.Common.{rules, tests, ◌∙◌, ℕ}
use Rattle.std.proofs.lemmas.Iterator.{YieldsList-from_slice, YieldsList-from_zip}
use Rattle.std.proofs.lemmas.Iterator.Search.{all_from_yields_List}
use Rattle.scalar.specs.Reading.{whole_of}
use Rattle.manual.specs.Values.{in_range}
use Rattle.elements.proofs.Places.{ranges-all}
use Rattle.elements.proofs.subscripts.in_ranges.Goals as goal

pub returns : goal.returns
returns c = let a = c.args in
    all_from_yields_List (λ (p : ℕ × ℕ). in_range a.origin (whole_of p.0) p.1) c.all.new.self _ _ c.all.ensures.ran (YieldsList-from_zip (YieldsList-from_slice a.subscripts.now cc) (YieldsList-from_slice a.lengths.now cc)) (λ x b q k. search (rules, tests))
    ∙ ranges-all a.origin a.subscripts.now a.lengths.now
