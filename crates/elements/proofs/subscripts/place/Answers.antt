use Rattle.std.proofs.Common.{sym, ap, ◌∙◌}
use Rattle.manual.specs.OrTrap.{gives}
use Rattle.manual.specs.Values.{ravel_place}
use Rattle.elements.proofs.Places.{place-within}
use Rattle.elements.proofs.subscripts.place.Goals as goal

pub place_of-requires : goal.place_of-requires
place_of-requires c = (c.requires.0, c.requires.1, sym c.in_ranges.ensures ∙ c.if-in_ranges.true)

pub returns-then-in_ranges : goal.returns-then-in_ranges
returns-then-in_ranges c = ap gives c.place_of.ensures ∙ place-within c.args.origin c.args.subscripts.now c.args.lengths.now c.requires.0 (sym c.in_ranges.ensures ∙ c.if-in_ranges.true)

pub returns-then-any_character : goal.returns-then-any_character
unfolding ravel_place
returns-then-any_character c = rw (sym c.any_character.ensures ∙ c.if-any_character.true)

pub returns-then-any_fraction : goal.returns-then-any_fraction
unfolding ravel_place
returns-then-any_fraction c = rw (sym c.any_character.ensures ∙ c.if-any_character.false, sym c.any_fraction.ensures ∙ c.if-any_fraction.true)

pub returns : goal.returns
unfolding ravel_place
returns c = rw (sym c.any_character.ensures ∙ c.if-any_character.false, sym c.any_fraction.ensures ∙ c.if-any_fraction.false, sym c.in_ranges.ensures ∙ c.if-in_ranges.false)
