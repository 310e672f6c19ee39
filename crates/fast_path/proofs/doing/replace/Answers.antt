use Prim.Native.Nat.{ℕ, ◌+◌, ◌-◌}
use mathlib.Core.Path.{ap, ◌∙◌}
use Rattle.effects.specs.Perform.{finish}
use Rattle.fast_path.proofs.doing.replace.Goals as goal

pub returns : goal.returns
returns c = let a = c.args in c.finish.ensures ∙ ap (λ (b : ℕ). finish a.seg.now b a.w) (c.of.ensures ∙ c.saturating_sub-b.ensures ∙ ap (λ (k : ℕ). k + 1 - a.n) (c.number.ensures ∙ c.top_cell.ensures.0))
