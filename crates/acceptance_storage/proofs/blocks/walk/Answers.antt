use mathlib.Core.Path.{refl, sym, ◌∙◌}
use native.Mathlib.Omega.{arith}
use borrow.Author.Rules.{rules}
use Rattle.acceptance_storage.proofs.Spans.{proper_none, proper_is}
use Rattle.acceptance_storage.proofs.Walk.{one_at_most, improper, walking_start, walking-room, walking-found, walking-no, walking-yes, walking-bad, walking-past, walking-fits, walking-inside, walking_on}
use Rattle.acceptance_storage.proofs.blocks.walk.Goals as goal

pub loop-a-init : goal.loop-a-init
loop-a-init c = (refl, refl, walking_start c.requires)

pub block_span-requires : goal.block_span-requires
block_span-requires c = omega (arith, c.loop-a-test.true, c.requires.inside)

pub returns-in_err-span : goal.returns-in_err-span
returns-in_err-span c = let answer = improper _ _ _ (walking-bad c.requires c.loop-a.invariant.2
    c.loop-a-test.true (sym (proper_none (sym c.block_span.ensures ∙ c.in_err-span.was))) refl) in record { value = rw c.from_residual.ensures answer.0; marked = answer.1 }

pub returns-then-end-a : goal.returns-then-end-a
returns-then-end-a c = let covers = proper_is (sym c.block_span.ensures ∙ c.in_ok-span.was) in
    let answer = improper _ _ _ (walking-past c.requires c.loop-a.invariant.2
    c.loop-a-test.true covers.0 covers.1 c.if-end-a.true) in record { value = answer.0; marked = answer.1 }

pub inside_test-requires : goal.inside_test-requires
inside_test-requires c = let covers = proper_is (sym c.block_span.ensures ∙ c.in_ok-span.was) in
    walking-fits c.requires c.loop-a.invariant.2
    c.loop-a-test.true covers.0 covers.1
    c.if-end-a.false c.of-block.ensures

pub returns-then-not-inside_test : goal.returns-then-not-inside_test
returns-then-not-inside_test c = let covers = proper_is (sym c.block_span.ensures ∙ c.in_ok-span.was) in
    let answer = improper _ _ _
    (walking-inside c.requires c.loop-a.invariant.2
    c.loop-a-test.true covers.0 covers.1 c.if-end-a.false
    c.of-block.ensures c.inside_test.ensures c.if-not-inside_test.true) in record { value = answer.0; marked = answer.1 }

pub mark-requires : goal.mark-requires
mark-requires c = walking-room c.requires c.loop-a.invariant.2

pub overflow_add-found : goal.overflow_add-found
overflow_add-found c = record {
  fits = omega (
    arith,
    c.mark.ensures.value,
    one_at_most
        c.free_at-before.result,
    walking-found c.requires
        c.loop-a.invariant.2,
    c.requires.longest,
  );
}

pub loop-a-preserved : goal.loop-a-preserved
loop-a-preserved c = let covers = proper_is (sym c.block_span.ensures ∙ c.in_ok-span.was) in
    let on = walking_on c.requires
    c.loop-a.invariant.2 c.loop-a-test.true
    covers.0 covers.1
    c.if-end-a.false
    c.of-block.ensures c.inside_test.ensures c.if-not-inside_test.false
    c.free_at-before.ensures
    c.mark.ensures.value c.mark.ensures.arrays_after
    c.mark.ensures.frees_after in
    (search rules, search rules, on)

pub returns-then-seg-end : goal.returns-then-seg-end
returns-then-seg-end c = let answer = improper _ _ _ (walking-no c.requires c.loop-a.invariant.2
    c.loop-a-test.false c.prev_free_bit.ensures c.if-seg-end.true) in record { value = answer.0; marked = answer.1 }

pub returns : goal.returns
returns c = let answer = walking-yes c.requires c.loop-a.invariant.2
    c.loop-a-test.false c.prev_free_bit.ensures c.if-seg-end.false in record { value = answer.0; marked = answer.1 }
