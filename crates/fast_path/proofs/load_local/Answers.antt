use mathlib.Core.Path.{sym, ◌∙◌}
use Rattle.fast_path.proofs.Answers.{left}
use Rattle.fast_path.proofs.Pushing.{scalar-loaded}
use Rattle.fast_path.proofs.load_local.Goals as goal

pub returns-then-i-eq0 : goal.returns-then-i-eq0
returns-then-i-eq0 c = left

pub returns-then-is_scalar : goal.returns-then-is_scalar
returns-then-is_scalar c = scalar-loaded _ _ (c.local-i.ensures c.if-i-eq0.false) c.word-w.ensures (sym c.is_scalar.ensures ∙ c.if-is_scalar.true) c.push.ensures

pub returns : goal.returns
returns c = c.load_from.ensures _ _ (c.local-i.ensures c.if-i-eq0.false)
