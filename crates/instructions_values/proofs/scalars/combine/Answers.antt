use Rattle.std.proofs.lemmas.Result.{err_from_is_err_and}
use Rattle.manual.specs.Values as values
use Rattle.operands.specs.Operands.{held}
use Rattle.operands.specs.declared.reading.Value.TheVariants.{Array}
use Rattle.instructions_values.proofs.Elementwise.{dyadic-scalars, dyadic-shaped, dyadic-refused, scalar-first, scalar-second, arrays-paired, arrays-extent}
use Rattle.instructions_values.proofs.Few.{ranked}
use Rattle.instructions_values.proofs.scalars.combine.Goals as goal

pub returns-in_err-w-in-Scalar-Scalar : goal.returns-in_err-w-in-Scalar-Scalar
returns-in_err-w-in-Scalar-Scalar c = let a = c.args in
    let w = c.in-Scalar-Scalar in
    let passed = err_from_is_err_and c.from_residual.result c.from_residual.ensures.1 in
    rw (passed.1, passed.2, w.is-0, w.is-1, dyadic-scalars a.next.0 a.op w.x w.y, ← c.dyadic.ensures, c.in_err-w-in-Scalar-Scalar.was)

pub returns-in_ok-w-in-Scalar-Scalar : goal.returns-in_ok-w-in-Scalar-Scalar
returns-in_ok-w-in-Scalar-Scalar c = let a = c.args in
    let w = c.in-Scalar-Scalar in
    rw (w.is-0, w.is-1, dyadic-scalars a.next.0 a.op w.x w.y, ← c.dyadic.ensures, c.in_ok-w-in-Scalar-Scalar.was) c.replace_by_scalar.ensures

pub returns-in-Scalar-Array : goal.returns-in-Scalar-Array
returns-in-Scalar-Array c = let a = c.args in
    let w = c.in-Scalar-Array in
    let v = held a.seg.now (Array w.like) in
    let some = ranked _ _ (c.requires.1.array _ w.is-1) in
    rw (w.is-0, w.is-1, dyadic-shaped a.next.0 a.op (values.scalar w.field-0-0) v v.shape some (scalar-first v some)) (rw (w.is-0, w.is-1) at c.paired.ensures)

pub returns-in-Array-Scalar : goal.returns-in-Array-Scalar
returns-in-Array-Scalar c = let a = c.args in
    let w = c.in-Array-Scalar in
    let v = held a.seg.now (Array w.like) in
    let some = ranked _ _ (c.requires.0.array _ w.is-0) in
    rw (w.is-0, w.is-1, dyadic-shaped a.next.0 a.op v (values.scalar w.field-0-1) v.shape some (scalar-second v some)) (rw (w.is-0, w.is-1) at c.paired-in-Array-Scalar.ensures)

pub returns-in_err-like-in-Array-Array : goal.returns-in_err-like-in-Array-Array
returns-in_err-like-in-Array-Array c = let a = c.args in
    let w = c.in-Array-Array in
    let passed = err_from_is_err_and c.from_residual-in_err-like-in-Array-Array.result c.from_residual-in_err-like-in-Array-Array.ensures.1 in
    let refused = rw c.in_err-like-in-Array-Array.was at c.conforming.ensures.shape in
    rw (passed.1, passed.2, w.is-0, w.is-1, dyadic-refused a.next.0 a.op (held a.seg.now (Array w.first)) (held a.seg.now (Array w.second)) _ _ refused)

pub paired-requires-in-Array-Array-clause-pairable : goal.paired-requires-in-Array-Array-clause-pairable
paired-requires-in-Array-Array-clause-pairable c = let a = c.args in
    let w = c.in-Array-Array in
    let like = c.in_ok-like-in-Array-Array in
    let first = c.requires.0.array _ w.is-0 in
    let second = c.requires.1.array _ w.is-1 in
    let conforms = rw like.was at c.conforming.ensures.shape in
    rw (w.is-0, w.is-1)
    (arrays-paired a.seg.now w.first.0 w.second.0 like.like.0 first second like.ensures.value_whole conforms, arrays-extent a.seg.now w.first.0 w.second.0 like.like.0 first second like.ensures.value_whole conforms)

pub returns-in_ok-like-in-Array-Array : goal.returns-in_ok-like-in-Array-Array
returns-in_ok-like-in-Array-Array c = let a = c.args in
    let w = c.in-Array-Array in
    let like = c.in_ok-like-in-Array-Array in
    let conforms = rw like.was at c.conforming.ensures.shape in
    rw (w.is-0, w.is-1, dyadic-shaped a.next.0 a.op (held a.seg.now (Array w.first)) (held a.seg.now (Array w.second)) _ (ranked _ _ like.ensures.value_whole) conforms) (rw (w.is-0, w.is-1) at c.paired-in-Array-Array.ensures)
