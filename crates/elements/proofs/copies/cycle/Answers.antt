use borrow.Author.Rules.{rules}
use lib.ListN.{length}
use native.Mathlib.Omega.{arith}
use mathlib.Core.Path.{◌∙◌}
use Rattle.elements.proofs.Filling.{cycle-single}
use Rattle.elements.proofs.copies.cycle.Goals as goal

pub returns-then-from-eq1 : goal.returns-then-from-eq1
returns-then-from-eq1 c = c.fill.ensures.after (search rules) ∙ cycle-single (length c.args.to.now) c.args.from.now (omega arith)
