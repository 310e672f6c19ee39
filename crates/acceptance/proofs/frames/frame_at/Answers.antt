use Prim.Native.Nat.{ℕ, ◌+◌}
use mathlib.Core.Path.{◌∙◌, ap}
use lib.ListN.{get_or}
use Rattle.acceptance.proofs.Chain.{header-arguments, header-variables}
use Rattle.acceptance.proofs.frames.frame_at.Goals as goal

pub returns : goal.returns
returns c = let a = c.args in
    let at = c.index-at.ensures ∙ ap (λ (n : ℕ). n + a.base.0) c.sbase.ensures in
    let code = c.word-code.ensures ∙ ap (λ (i : ℕ). get_or a.seg.now (i + 1) 0) at in
    record {
      last = c.of.ensures ∙ c.word.ensures ∙ ap (λ (i : ℕ). get_or a.seg.now i 0) at;
      code = code;
      arguments = header-arguments _ _ c.word-code.result c.header_of-header.ensures code;
      variables = header-variables _ _ c.word-code.result c.header_of-header.ensures code;
    }
