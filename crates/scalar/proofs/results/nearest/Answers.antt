use Rattle.std.proofs.Common.{◌^◌, arith}
use Rattle.scalar.proofs.Rounding.{closest-is}
use Rattle.scalar.proofs.results.nearest.Goals as goal

pub returns : goal.returns
returns c = closest-is c.args.n (2 ^ 41) _ (λ h. omega arith) (λ h. omega arith) (λ h. omega arith)
