use borrow.Author.Tests.{eqb-true}
use native.Mathlib.Omega.{arith}
use lib.ListN.{length}
use mathlib.Core.Path.{◌≡◌, refl, sym, ◌∙◌}
use Rattle.tally.proofs.Laws.{count_past}
use Rattle.machine.proofs.counting.count_step.Goals as goal

pub returns-then-is_empty : goal.returns-then-is_empty
returns-then-is_empty c = sym (count_past _ _ _ refl (let none : length c.args.counts.now ≡ 0 = eqb-true _ 0 (sym c.is_empty.ensures ∙ c.if-is_empty.true) in omega arith))

pub returns : goal.returns
returns c = (cc)
