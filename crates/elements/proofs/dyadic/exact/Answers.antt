use mathlib.Core.Path.{sym, ap, ◌∙◌}
use native.Mathlib.Omega.{arith}
use Rattle.std.proofs.lemmas.Result.{err_from_is_err_and}
use Rattle.manual.specs.Values.{answered}
use Rattle.elements.proofs.Collecting.{exact-start, exact-trap, exact_word, exact-end, pair-at, pairs-are, length_pairs, spans-below}
use Rattle.elements.proofs.dyadic.exact.Invariants.{applied}
use Rattle.elements.proofs.dyadic.exact.Goals as goal

pub loop-i-init : goal.loop-i-init
loop-i-init c = exact-start (length_pairs (applied c.args.op) c.requires.0) c.requires.1

pub pick-requires : goal.pick-requires
pick-requires c = spans-below c.requires.0.first c.loop-i-test.true

pub pick-requires-in-loop-i : goal.pick-requires-in-loop-i
pick-requires-in-loop-i c = spans-below c.requires.0.second c.loop-i-test.true

pub returns-in_err-out : goal.returns-in_err-out
returns-in_err-out c = let below = c.loop-i-test.true in
    let f = applied c.args.op in
    let p = err_from_is_err_and c.from_residual.result c.from_residual.ensures.1 in
    rw (p.1, p.2)
    (exact-trap c.loop-i.invariant (pair-at f c.requires.0 below (c.pick.ensures _ below) (c.pick-in-loop-i.ensures _ below))
    (ap answered (sym c.dyadic.ensures ∙ c.in_err-out.was))
    ∙ pairs-are f c.requires.0)

pub loop-i-preserved : goal.loop-i-preserved
loop-i-preserved c = let below = c.loop-i-test.true in
    exact_word c.loop-i.invariant (pair-at (applied c.args.op) c.requires.0 below (c.pick.ensures _ below) (c.pick-in-loop-i.ensures _ below))
    (ap answered (sym c.dyadic.ensures ∙ c.in_ok-out.was))

pub shape_of-out : goal.shape_of-out
shape_of-out c = c.loop-i.invariant.kept

pub returns : goal.returns
returns c = exact-end c.loop-i.invariant (omega arith) ∙ pairs-are (applied c.args.op) c.requires.0
