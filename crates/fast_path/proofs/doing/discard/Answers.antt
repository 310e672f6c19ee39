use Prim.Native.Nat.{ℕ, ◌-◌}
use mathlib.Core.Path.{ap, ◌∙◌}
use Rattle.segment.specs.State.{set_ltop}
use Rattle.fast_path.proofs.doing.discard.Goals as goal

pub returns : goal.returns
returns c = let a = c.args in c.set_ltop.ensures ∙ ap (set_ltop a.seg.now) (c.of.ensures ∙ c.saturating_sub-left.ensures ∙ ap (λ (k : ℕ). k - a.n) (c.number.ensures ∙ c.ltop.ensures))
