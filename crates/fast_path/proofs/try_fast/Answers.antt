use mathlib.Core.Path.{refl, sym, ap, ◌∙◌}
use Rattle.manual.specs.Seen.{variables_of}
use Rattle.fast_path.proofs.Answers.{left}
use Rattle.fast_path.proofs.Decoding.{short-local-at, constant-at, scalar-at, memory-at, etc-at, long-local-at, long-global-at}
use Rattle.fast_path.proofs.try_fast.Goals as goal

pub returns-then-at-lt8 : goal.returns-then-at-lt8
returns-then-at-lt8 c = λ f. λ of. left

pub returns-then-code-at : goal.returns-then-code-at
returns-then-code-at c = λ f. λ of. left

pub returns-in-ShortLocal : goal.returns-in-ShortLocal
returns-in-ShortLocal c = λ f. λ of. short-local-at _ f _ _ c.number-at.ensures c.if-at-lt8.false c.if-code-at.false refl c.family_of.ensures c.in-ShortLocal.is (c.variables.ensures ∙ ap variables_of (sym of.0)) c.after.ensures c.load_local.ensures

pub returns-in-ShortConst : goal.returns-in-ShortConst
returns-in-ShortConst c = λ f. λ of. constant-at _ f _ _ c.number-at.ensures c.if-at-lt8.false c.if-code-at.false refl c.family_of.ensures c.in-ShortConst.is (c.short_constant.ensures f tt)

pub returns-in-GenScalar : goal.returns-in-GenScalar
returns-in-GenScalar c = λ f. λ of. scalar-at _ f _ _ c.number-at.ensures c.if-at-lt8.false c.if-code-at.false refl c.family_of.ensures c.in-GenScalar.is (c.scalar_operation.ensures f of.1)

pub returns-in-MemRef : goal.returns-in-MemRef
returns-in-MemRef c = λ f. λ of. memory-at _ f _ _ c.number-at.ensures c.if-at-lt8.false c.if-code-at.false refl c.family_of.ensures c.in-MemRef.is c.memory_of.ensures (c.memory.ensures f (ap variables_of of.0 ∙ sym c.variables-in-MemRef.ensures))

pub returns-in-Etc : goal.returns-in-Etc
returns-in-Etc c = λ f. λ of. etc-at _ f _ _ c.number-at.ensures c.if-at-lt8.false c.if-code-at.false refl c.family_of.ensures c.in-Etc.is (c.etc.ensures f of.0)

pub returns-in-LongLocal : goal.returns-in-LongLocal
returns-in-LongLocal c = λ f. λ of. long-local-at _ f _ _ c.number-at.ensures c.if-at-lt8.false c.if-code-at.false refl c.family_of.ensures c.in-LongLocal.is (c.load_long.ensures f (ap variables_of of.0 ∙ sym c.variables-in-LongLocal.ensures))

pub returns-in-LongGlobal : goal.returns-in-LongGlobal
returns-in-LongGlobal c = λ f. λ of. long-global-at _ f _ _ c.number-at.ensures c.if-at-lt8.false c.if-code-at.false refl c.family_of.ensures c.in-LongGlobal.is (c.load_long-in-LongGlobal.ensures f (ap variables_of of.0 ∙ sym c.variables-in-LongGlobal.ensures))

pub returns-in-Index : goal.returns-in-Index
returns-in-Index c = λ f. λ of. left
