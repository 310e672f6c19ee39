use Prim.Native.Nat.{◌%◌, ◌^◌}
use mathlib.Core.Path.{sym, ap, ◌∙◌}
use Rattle.effects.specs.Seen.{seen}
use Rattle.effects.specs.Carried.{carry}
use Rattle.instructions_control.proofs.Calling.{call-found, call-absent}
use Rattle.instructions_control.proofs.calls.call.Goals as goal

pub returns : goal.returns
returns c = let a = c.args in
    c.call_into.ensures ∙ ap (carry a.seg.now) (call-found a.regular.now a.alternate.now (seen a.seg.now) a.next.0 a.arguments a.selector (a.function % 2 ^ 11) _ (sym c.find_in.ensures ∙ c.in-Some.is))

pub returns-in_default : goal.returns-in_default
returns-in_default c = let a = c.args in
    ap (carry a.seg.now) (call-absent a.regular.now a.alternate.now (seen a.seg.now) a.next.0 a.arguments a.selector (a.function % 2 ^ 11) (sym c.find_in.ensures ∙ c.in_default.is))
