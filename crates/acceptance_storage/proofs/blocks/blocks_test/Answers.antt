use Prim.Native.Nat.{ℕ, ◌-◌}
use mathlib.Core.Path.{sym, ◌∙◌, ap}
use Rattle.acceptance_storage.proofs.Walk.{improper, dummy-bad, before-walk}
use Rattle.acceptance_storage.proofs.blocks.blocks_test.Goals as goal

pub returns-then-word-ne0 : goal.returns-then-word-ne0
returns-then-word-ne0 c = let s = c.args.seg.now in
    let end = ap (λ (n : ℕ). n - 3) (c.index-end.ensures ∙ c.sbase.ensures) in let answer = improper s _ _ (dummy-bad s _ end (λ z. c.if-word-ne0.true (c.word.ensures ∙ z))) in record { value = answer.0; marked = answer.1 }

pub walk-requires : goal.walk-requires
walk-requires c = let h = c.requires in
    before-walk h.0 h.1 h.2 h.3 (c.index-from.ensures ∙ c.blockptr.ensures)
    (c.index-end.ensures ∙ c.sbase.ensures)
    (sym c.word.ensures ∙ c.if-word-ne0.false)
