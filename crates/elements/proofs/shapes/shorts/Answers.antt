use Rattle.std.proofs.Common.{sym, ap, ◌∙◌, arith}
use Rattle.std.proofs.lemmas.Result.{err_from_is_err_and}
use Rattle.manual.specs.Values.{answered}
use Rattle.elements.proofs.Collecting.{each_start, each-trap, each_on, each-end}
use Rattle.elements.proofs.shapes.shorts.Goals as goal

pub loop-i-init : goal.loop-i-init
loop-i-init c = each_start c.requires

pub returns-in_err-out : goal.returns-in_err-out
returns-in_err-out c = let p = err_from_is_err_and c.from_residual.result c.from_residual.ensures.1 in
    rw (p.1, p.2) (each-trap c.loop-i.invariant c.loop-i-test.true (sym c.short.ensures ∙ ap answered c.in_err-out.was))

pub loop-i-preserved : goal.loop-i-preserved
loop-i-preserved c = each_on c.loop-i.invariant c.loop-i-test.true (sym c.short.ensures ∙ ap answered c.in_ok-out.was)

pub shape_of-out : goal.shape_of-out
shape_of-out c = c.loop-i.invariant.exact.kept

pub returns : goal.returns
returns c = each-end c.loop-i.invariant (omega arith)
