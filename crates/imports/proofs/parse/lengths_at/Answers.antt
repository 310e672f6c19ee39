use mathlib.Core.Path.{sym}
use native.Mathlib.Omega.{arith}
use lib.ListN.{drop}
use lib.Seq.{length-take-le}
use borrow.Author.Tests.{lt-ltb, le-ltb}
use Rattle.imports.specs.Records.{imported_lengths, number_limit}
use Rattle.imports.proofs.Parsing.{part-read}
use Rattle.imports.proofs.parse.lengths_at.Goals as goal

pub returns-then-rank-gt15-clause-ravel_after : goal.returns-then-rank-gt15-clause-ravel_after
unfolding imported_lengths
returns-then-rank-gt15-clause-ravel_after c = simp (lt-ltb _ _ c.if-rank-gt15.true)

pub returns-in_err-next-clause-ravel_after : goal.returns-in_err-next-clause-ravel_after
unfolding imported_lengths
returns-in_err-next-clause-ravel_after c =
    let read = part-read number_limit c.args.rank _ _ _ _ c.args.lengths.now (length-take-le _ _ (omega arith)) c.numbers_at.auto.out _ c.numbers_at.ensures in
    simp (c.from_residual.ensures, le-ltb _ _ c.if-rank-gt15.false, sym (rw c.in_err-next.was at read))

pub returns-clause-ravel_after : goal.returns-clause-ravel_after
unfolding imported_lengths
returns-clause-ravel_after c =
    let read = part-read number_limit c.args.rank _ _ _ _ (drop c.args.rank c.args.lengths.now) (length-take-le _ _ (omega arith)) c.numbers_at.auto.out _ c.numbers_at.ensures in
    simp (le-ltb _ _ c.if-rank-gt15.false, sym (rw c.in_ok-next.was at read)) c.elements_at.ensures.ravel_after
