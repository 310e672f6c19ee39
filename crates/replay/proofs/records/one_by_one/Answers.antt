use borrow.Author.Rules.{rules}
use native.Mathlib.Omega.{arith}
use mathlib.Core.Path.{refl, ap, ◌∙◌}
use Rattle.std.proofs.Common.{Some}
use Rattle.std.proofs.lemmas.Result.{err_from_is_err_and}
use Rattle.replay.proofs.Replaying.{parsed-malformed, parsed-run, parsed-load, file-ends, no_record, run-done, load-done, goes_on, halts, load-passes}
use Rattle.replay.proofs.records.one_by_one.Goals as goal

pub returns-in_default : goal.returns-in_default
returns-in_default c = let l = c.loop-place in
    no_record _ _ _ _ _ c.loop-place-test.true (parsed-malformed _ _ c.record_at.ensures.ravel_after c.in_default.is) ∙ l.invariant.4

pub returns-in_err-run_record-in-Run : goal.returns-in_err-run_record-in-Run
returns-in_err-run_record-in-Run c = let l = c.loop-place in
    let r = c.record_at in
    let told = c.in_err-run_record-in-Run.ensures in
    let p = err_from_is_err_and c.from_residual.result c.from_residual.ensures.1 in
    let done = run-done _ _ _ _ _ c.loop-place-test.true c.in-Run.next c.in-Run.budget (parsed-run _ _ r.ensures.ravel_after _ _ (c.in-Some.is ∙ ap (λ r. Some r) c.in-Run.is)) refl told.seg_after told.counts_after in
    rw (p.1, p.2) (halts _ _ done _ told.value ∙ l.invariant.4)

pub loop-place-preserved-in-Run : goal.loop-place-preserved-in-Run
loop-place-preserved-in-Run c = let l = c.loop-place in
    let r = c.record_at in
    let told = c.in_ok-run_record-in-Run.ensures in
    let done = run-done _ _ _ _ _ c.loop-place-test.true c.in-Run.next c.in-Run.budget (parsed-run _ _ r.ensures.ravel_after _ _ (c.in-Some.is ∙ ap (λ r. Some r) c.in-Run.is)) refl told.seg_after told.counts_after in
    (search rules, search rules, search rules, search rules, goes_on _ _ done told.value ∙ l.invariant.4, tt)

pub returns-in_err-load_record-in-Load : goal.returns-in_err-load_record-in-Load
returns-in_err-load_record-in-Load c = let l = c.loop-place in
    let r = c.record_at in
    let told = c.in_err-load_record-in-Load.ensures in
    let left = c.from_residual-in_err-load_record-in-Load in
    let p = err_from_is_err_and left.result left.ensures.1 in
    let done = load-done _ _ _ _ _ c.loop-place-test.true c.in-Load.next c.in-Load.global _ _ (parsed-load _ _ r.ensures.ravel_after _ _ _ _ (c.in-Some.is ∙ ap (λ r. Some r) c.in-Load.is)) refl told.seg_after refl in
    rw (p.1, p.2) (halts _ _ done _ told.value ∙ l.invariant.4)

pub loop-place-preserved : goal.loop-place-preserved
loop-place-preserved c = let l = c.loop-place in
    let r = c.record_at in
    let told = c.in_ok-load_record-in-Load.ensures in
    let done = load-done _ _ _ _ _ c.loop-place-test.true c.in-Load.next c.in-Load.global _ _ (parsed-load _ _ r.ensures.ravel_after _ _ _ _ (c.in-Some.is ∙ ap (λ r. Some r) c.in-Load.is)) refl told.seg_after refl in (
      search rules,
      search rules,
      search rules,
      search rules,
      goes_on _ _ done told.value ∙ l.invariant.4,
      load-passes _ _ _ _ _ _ told.value told.seg_after,
    )

pub returns : goal.returns
returns c = file-ends _ _ _ _ _ (omega arith) ∙ c.loop-place.invariant.4
