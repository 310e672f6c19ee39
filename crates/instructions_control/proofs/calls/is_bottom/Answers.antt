use Rattle.std.proofs.Common.{◌≡◌, ◌∙◌, leb, arith}
use Rattle.std.specs.Ordering.{is_le, nat_cmp}
use Rattle.std.proofs.lemmas.Bool.Decides.{nat_tests}
use Rattle.instructions_control.proofs.Leaving.{bottom-seen}
use Rattle.instructions_control.proofs.calls.is_bottom.Goals as goal

pub returns : goal.returns
returns c =
    let below : is_le (nat_cmp c.lbase-frame.result.0 c.last_lbase.result.0) ≡ leb c.lbase-frame.result.0 c.last_lbase.result.0 = grind (arith, nat_tests) in
    (cc) ∙ bottom-seen _
