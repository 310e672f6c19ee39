use Rattle.elements.proofs.Collecting.{operands}
use borrow.Author.Rules.{rules}
use Rattle.elements.proofs.dyadic.dyadic.Goals as goal

pub fast-requires : goal.fast-requires
fast-requires c = (operands c.requires.0 c.extent-n.ensures, search rules)

pub returns-then-fast : goal.returns-then-fast
returns-then-fast c = rw (← c.extent-n.ensures) (c.fast.ensures c.if-fast.true)

pub exact-requires : goal.exact-requires
exact-requires c = (operands c.requires.0 c.extent-n.ensures, search rules)

pub returns : goal.returns
returns c = rw (← c.extent-n.ensures) c.exact.ensures
