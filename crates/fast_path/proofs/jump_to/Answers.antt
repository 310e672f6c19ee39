use mathlib.Core.Path.{refl}
use mathlib.Core.Bool.{true, false}
use Rattle.fast_path.proofs.Going.{in_code, gone}
use Rattle.fast_path.proofs.Decoding.{go-by, go-true-by, go-false-by}
use Rattle.fast_path.proofs.Answers.{left, went}
use Rattle.fast_path.proofs.jump_to.Goals as goal

pub returns-then-code-at : goal.returns-then-code-at
returns-then-code-at c = λ f. λ of. left

pub returns-then-number-lt8 : goal.returns-then-number-lt8
returns-then-number-lt8 c = λ f. λ of. left

pub returns-then-code_end-number : goal.returns-then-code_end-number
returns-then-code_end-number c = λ f. λ of. left

pub returns-in-Go : goal.returns-in-Go
returns-in-Go c = let inside = in_code c.args.h c.of-to.ensures c.if-number-lt8.false c.if-code_end-number.false c.code_end.ensures in
    λ f. λ of. go-by _ f _ _ of c.number.ensures c.if-code-at.false c.half-number.ensures c.of-to.ensures refl c.in-Go.is (went c.go.ensures.0 (gone _ _ inside.0 inside.1 _ c.go.ensures.1))

pub returns-in-GoTrue : goal.returns-in-GoTrue
returns-in-GoTrue c = let inside = in_code c.args.h c.of-to.ensures c.if-number-lt8.false c.if-code_end-number.false c.code_end.ensures in
    λ f. λ of. go-true-by _ f _ _ of c.number.ensures c.if-code-at.false c.half-number.ensures c.of-to.ensures c.requires c.in-GoTrue.is (c.go_if.ensures _ true refl inside.0 inside.1)

pub returns-in-GoFalse : goal.returns-in-GoFalse
returns-in-GoFalse c = let inside = in_code c.args.h c.of-to.ensures c.if-number-lt8.false c.if-code_end-number.false c.code_end.ensures in
    λ f. λ of. go-false-by _ f _ _ of c.number.ensures c.if-code-at.false c.half-number.ensures c.of-to.ensures c.requires c.in-GoFalse.is (c.go_if-in-GoFalse.ensures _ false refl inside.0 inside.1)
