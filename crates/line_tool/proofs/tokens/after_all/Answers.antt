use mathlib.Core.Path.{◌≡◌, sym, ◌∙◌}
use native.Mathlib.Omega.{arith}
use lib.ListN.{length}
use Rattle.descriptor.proofs.Truth.{by_le}
use Rattle.line_tool.proofs.Places.{after_none, after_stop, after-step}
use Rattle.line_tool.proofs.tokens.after_all.Goals as goal

pub returns-then-not-is_of : goal.returns-then-not-is_of
returns-then-not-is_of c = sym (after_stop _ _ _ (omega arith) (sym c.is_of.ensures ∙ c.if-not-is_of.true)) ∙ c.loop-i.invariant

pub loop-i-preserved : goal.loop-i-preserved
loop-i-preserved c = sym (after-step _ _ _ (omega arith) (sym c.is_of.ensures ∙ c.if-not-is_of.false)) ∙ c.loop-i.invariant

pub returns : goal.returns
returns c =
    by_le c.args.from (length c.args.bytes.now)
    (λ inside. let end : c.max.result ≡ c.loop-i.i = omega (arith, c.loop-i.auto.i-end inside) in
    end ∙ sym (after_none _ _ _ (omega arith)) ∙ c.loop-i.invariant)
    (λ past. let start : c.max.result ≡ c.args.from = omega arith in start ∙ sym (after_none _ _ _ (omega arith)))
