use native.Mathlib.Omega.{arith}
use mathlib.Core.Path.{refl}
use Rattle.manual.specs.Instructions.{header_of, resolve}
use Rattle.effects.specs.Seen.{seen}
use Rattle.fast_path.proofs.Answers.{left}
use Rattle.fast_path.proofs.Decoding.{assign-by}
use Rattle.fast_path.proofs.assign.Goals as goal

pub returns-then-code-at : goal.returns-then-code-at
returns-then-code-at c = λ f. λ of. left

pub returns-then-i-eq0 : goal.returns-then-i-eq0
returns-then-i-eq0 c = λ f. λ of. left

pub returns : goal.returns
returns c = let named = c.variable-i.ensures c.if-i-eq0.false in
    λ f. λ of. assign-by _ f _ _ (omega arith) c.args.keep c.if-code-at.false refl _ c.further.ensures c.after.ensures c.family_of-family.ensures named (c.store.ensures (resolve (seen c.args.seg.now) (header_of f) named.address) _ (named.stands (header_of f) of))
