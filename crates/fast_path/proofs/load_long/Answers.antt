use native.Mathlib.Omega.{arith}
use Rattle.manual.specs.Instructions.{header_of, resolve}
use Rattle.effects.specs.Seen.{seen}
use Rattle.fast_path.proofs.Answers.{left}
use Rattle.fast_path.proofs.Decoding.{load-by}
use Rattle.fast_path.proofs.load_long.Goals as goal

pub returns-then-i-eq0 : goal.returns-then-i-eq0
returns-then-i-eq0 c = λ f. λ of. left

pub returns : goal.returns
returns c = λ f. λ of. let named = c.long-i.ensures c.if-i-eq0.false in load-by _ f _ _ (omega arith) _ _ named c.after.ensures (c.load_from.ensures (resolve (seen c.args.seg.now) (header_of f) named.address) _ (named.stands (header_of f) of))
