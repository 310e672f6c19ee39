use Rattle.std.proofs.Common.{ℕ, true, sym, ◌∙◌, ap₂, pos_of_ne-zero, mul-pos, arith, pow_pos}
use Rattle.scalar.specs.Operators.{plus}
use Rattle.scalar.proofs.Units.{unpacked-normal}
use Rattle.scalar.proofs.Addition.{without-left, without-right, plus_comm, shifted-lt, aligned, tiny}
use Rattle.scalar.proofs.sums.float_sum.Goals as goal

pub returns-then-p-eq0 : goal.returns-then-p-eq0
returns-then-p-eq0 c = c.rounded.ensures ∙ without-left c.args.s c.args.t _ _ _ _ _ _ c.unpack-p.ensures.value c.unpack-q.ensures.value c.if-p-eq0.true

pub returns-then-q-eq0 : goal.returns-then-q-eq0
returns-then-q-eq0 c = c.rounded-then-q-eq0.ensures ∙ without-right c.args.s c.args.t _ _ _ _ _ _ c.unpack-p.ensures.value c.unpack-q.ensures.value c.if-q-eq0.true

pub far_sum-requires : goal.far_sum-requires
far_sum-requires c = let x = unpacked-normal c.unpack-p.ensures c.if-p-eq0.false in (c.requires.0, x.long, x.short, x.small)

pub returns-then-d-gt38 : goal.returns-then-d-gt38
returns-then-d-gt38 c = let a = c.args in
    c.far_sum.ensures _ (mul-pos (pos_of_ne-zero c.if-q-eq0.false) (pow_pos c.unpack-q.result.exp)) (tiny _ _ _ c.unpack-q.ensures.short (omega (arith, c.min-e.ensures)))
    ∙ sym (ap₂ (λ (m n : ℕ). plus true a.s m a.t n) c.unpack-p.ensures.value c.unpack-q.ensures.value)

pub far_sum-requires-then-f-gt38 : goal.far_sum-requires-then-f-gt38
far_sum-requires-then-f-gt38 c = let y = unpacked-normal c.unpack-q.ensures c.if-q-eq0.false in (c.requires.1, y.long, y.short, y.small)

pub returns-then-f-gt38 : goal.returns-then-f-gt38
returns-then-f-gt38 c = let a = c.args in
    c.far_sum-then-f-gt38.ensures _ (mul-pos (pos_of_ne-zero c.if-p-eq0.false) (pow_pos c.unpack-p.result.exp)) (tiny _ _ _ c.unpack-p.ensures.short (omega (arith, c.min-e.ensures)))
    ∙ plus_comm _ _ _ _
    ∙ sym (ap₂ (λ (m n : ℕ). plus true a.s m a.t n) c.unpack-p.ensures.value c.unpack-q.ensures.value)

pub near_sum-requires : goal.near_sum-requires
near_sum-requires c = (c.requires.0, c.requires.1, shifted-lt _ _ c.unpack-p.ensures.short c.if-d-gt38.false, shifted-lt _ _ c.unpack-q.ensures.short c.if-f-gt38.false, omega (arith, c.min-e.ensures, c.unpack-p.ensures.small))

pub returns : goal.returns
returns c = let l = c.min-e in
    let a = c.args in
    c.near_sum.ensures
    ∙ ap₂ (λ (m n : ℕ). plus true a.s m a.t n)
    (aligned _ _ l.result _ c.unpack-p.ensures.short c.if-d-gt38.false (omega (arith, l.ensures)) ∙ sym c.unpack-p.ensures.value)
    (aligned _ _ l.result _ c.unpack-q.ensures.short c.if-f-gt38.false (omega (arith, l.ensures)) ∙ sym c.unpack-q.ensures.value)
