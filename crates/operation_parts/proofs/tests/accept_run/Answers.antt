use Rattle.std.proofs.lemmas.Result.{err_from_is_err_and}
use Rattle.operation_parts.proofs.Lent.{lent-refused, longest, no_table, judged}
use Rattle.operation_parts.proofs.tests.accept_run.Goals as goal

pub returns-in_err-lent : goal.returns-in_err-lent
returns-in_err-lent c = let p = err_from_is_err_and c.from_residual.result c.from_residual.ensures.1 in rw (p.1, p.2) (lent-refused _ _ _ c.in_err-lent.ensures)

pub returns-then-not-is_table : goal.returns-then-not-is_table
returns-then-not-is_table c = no_table _ _ c.in_ok-lent.ensures (cc c.if-not-is_table.true)

pub judge_data-requires : goal.judge_data-requires
judge_data-requires c = let a = c.args in longest a.seg.now a.regular.now a.alternate.now c.in_ok-lent.ensures

pub returns-in_err-judge_data : goal.returns-in_err-judge_data
returns-in_err-judge_data c = let p = err_from_is_err_and c.from_residual-in_err-judge_data.result c.from_residual-in_err-judge_data.ensures.1 in rw (p.1, p.2) (judged _ _ c.in_ok-lent.ensures (cc c.if-not-is_table.false) c.in_err-judge_data.ensures)

pub returns : goal.returns
returns c = judged _ _ c.in_ok-lent.ensures (cc c.if-not-is_table.false) c.in_ok-judge_data.ensures
