use Rattle.std.proofs.Common.{ℕ, sym, ◌∙◌, ap, arith}
use Rattle.std.proofs.lemmas.Bool.Decides.{nat_tests}
use lib.ListN.{get_or}
use lib.Dec.{leb}
use borrow.Author.Tests.{eqb-true}
use Rattle.acceptance_storage.proofs.Rounds.{on-dummy, on-mark}
use Rattle.acceptance_storage.proofs.ring.on_ring.Goals as goal

pub returns-then-eq : goal.returns-then-eq
returns-then-eq c = c.if-eq.true ∙ on-dummy c.args.marks.now _ _ (eqb-true _ _ (sym c.eq.ensures ∙ c.if-eq.true))

pub returns-else-eq : goal.returns-else-eq
returns-else-eq c = let marks = c.args.marks.now in
    ap (leb 1) (c.mark_at.ensures ∙ ap (λ (i : ℕ). get_or marks i 0) c.index.ensures)
    ∙ on-mark marks _ _ (λ e. grind (arith, nat_tests))
