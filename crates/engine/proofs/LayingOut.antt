-- The table of lay out: its answer, and the segment after it, where the tests up to one are known.
use Rattle.std.proofs.Common.{Option, Some, None, Result, Ok, Err}
use Prim.Native.Nat.{ℕ, ◌+◌, ◌<◌, ◌≤◌}
use mathlib.Core.Path.{◌≡◌, refl, sym, ap, ◌∙◌}
use mathlib.Core.Bool.{Bool, true, false, cond, ◌&&◌}
use mathlib.Core.List.{List}
use native.Mathlib.Omega.{arith}
use lib.ListN.{length}
use lib.Dec.{leb, eqb}
use borrow.Author.Tests.{eq-eqb, ne_eqb}
use Rattle.procedure.specs.declared.header.Block.{Block}
use Rattle.procedure.specs.Headers.{block_at}
use Rattle.procedure.specs.Directory.{has_function, start_of, function_of}
use Rattle.procedure.specs.Refusal.{procedure_refusal}
use Rattle.manual.specs.Control.{frame_word}
use Rattle.acceptance.specs.Refusal.{length_test}
use Rattle.fresh_segment.specs.LayOut.{Layout, chosen, locals_of, function_test, base_of, parts_test, lay_out_refusal, fresh, laid_out}
use Rattle.fresh_segment.proofs.Passed.{passed as passes}
use Rattle.operation_parts.proofs.Lent.{segments, then-others}
use Rattle.operations.specs.declared.Refusal.{Refusal}
use Rattle.operations.specs.declared.Refusal.TheVariants as R
use Rattle.operations.specs.Answers.{number_of, numbered, status_of}
use Rattle.operations.proofs.Answers.{nonzero, by-status}
use Rattle.audit.specs.Calls as call
use Rattle.audit.specs.Did.{Promised}
use Rattle.audit.proofs.LayOut.{lay-out-did}

-- ---- the bottom function

abbrev bottom : List ℕ → List ℕ → Layout → Option Block
bottom regular alternate l = cond (leb l.selector 1 && leb l.function 2047) (function_of (chosen regular alternate l) l.function) None

abbrev niladic : Option Block → Bool
niladic None = false
niladic (Some block) = eqb block.header.nargs 0

by_tests : (a b c : Bool) (block : Block) → (a && b && c && eqb block.header.nargs 0) ≡ niladic (cond (a && b) (cond c (Some block) None) None)
by_tests true true true block = refl
by_tests true true false block = refl
by_tests true false c block = refl
by_tests false b c block = refl

same_block : (a c : Bool) (x block : Block) → Some block ≡ cond a (cond c (Some x) None) None → block ≡ x
same_block true true x block at = cc
same_block true false x block at = cc
same_block false c x block at = cc

module _ (regular alternate : List ℕ) (l : Layout) where
  by-function : (f : Option Block) → f ≡ bottom regular alternate l → function_test regular alternate l ≡ niladic f
  unfolding function_test function_of
  by-function f same =
      by_tests (leb l.selector 1) (leb l.function 2047) (has_function (chosen regular alternate l) l.function) (block_at (chosen regular alternate l) (start_of (chosen regular alternate l) l.function))
      ∙ ap niladic (sym same)

  by-block : (block : Block) → Some block ≡ bottom regular alternate l → block.header.nlocals ≡ locals_of regular alternate l
  unfolding function_of
  by-block block at = ap (λ (b : Block). b.header.nlocals) (same_block (leb l.selector 1 && leb l.function 2047) (has_function (chosen regular alternate l) l.function) _ block at)

-- ---- the table

module _ (s regular alternate : List ℕ) (l : Layout) where
  -- what lay out answers, and what it leaves
  abbrev pub Answers : Result (Unit {0}) Refusal → List ℕ → Type 0
  Answers answer after = (status_of (numbered answer) ≡ lay_out_refusal s regular alternate l) × (after ≡ laid_out s regular alternate l)

  refused : (refusal : Refusal) → lay_out_refusal s regular alternate l ≡ number_of refusal → Answers (Err refusal) s
  unfolding laid_out
  refused refusal e = (sym e, simp (e, ne_eqb (number_of refusal) 0 (nonzero refusal)))

  done : lay_out_refusal s regular alternate l ≡ 0
      → Answers (Ok tt) (fresh (length s) (locals_of regular alternate l) (frame_word (eqb l.selector 1) l.function) l)
  unfolding laid_out
  done e = (sym e, simp e)

  -- tests 10, 11 and 12
  abbrev pub lent : ℕ
  lent = segments s regular alternate

  by-segments : lay_out_refusal s regular alternate l ≡ cond (eqb lent 0) (cond (function_test regular alternate l) (cond (parts_test s regular alternate l) 0 19) 20) lent
  unfolding lay_out_refusal
  by-segments = then-others (length_test s) (procedure_refusal regular alternate) (cond (function_test regular alternate l) (cond (parts_test s regular alternate l) 0 19) 20)

  pub segments-refused : (refusal : Refusal) → number_of refusal ≡ lent → Answers (Err refusal) s
  segments-refused refusal same = refused refusal (by-segments ∙ simp (← same, ne_eqb (number_of refusal) 0 (nonzero refusal)))

  module _ (passed : 0 ≡ lent) where
    by_parts : (f : Option Block) → f ≡ bottom regular alternate l → lay_out_refusal s regular alternate l ≡ cond (niladic f) (cond (parts_test s regular alternate l) 0 19) 20
    by_parts f same = by-segments ∙ simp (← passed, by-function regular alternate l f same)

    pub absent : None ≡ bottom regular alternate l → Answers (Err R.Function) s
    absent same = refused R.Function (by_parts None same)

    module _ (block : Block) (at : Some block ≡ bottom regular alternate l) where
      pub has-arguments : 0 < block.header.nargs → Answers (Err R.Function) s
      has-arguments some = refused R.Function (by_parts (Some block) at ∙ simp (ne_eqb block.header.nargs 0 (λ e. omega (arith, e))))

      abbrev pub parts : Bool
      parts = leb l.globals 4088 && leb 6 l.array_words && leb (base_of l + block.header.nlocals + 2) (length s)

      module _ (none : block.header.nargs ≤ 0) where
        judged : (b : Bool) → b ≡ parts → lay_out_refusal s regular alternate l ≡ cond b 0 19
        unfolding parts_test
        judged b same = by_parts (Some block) at ∙ simp (eq-eqb block.header.nargs 0 (omega arith), ← by-block regular alternate l block at, ← same)

        pub too_large : false ≡ parts → Answers (Err R.Parts) s
        too_large same = refused R.Parts (judged false same)

        module _ (fit : true ≡ parts) where
          pub laid : (after : List ℕ) → after ≡ fresh (length s) block.header.nlocals (frame_word (eqb l.selector 1) l.function) l → Answers (Ok tt) after
          laid after left =
              let same = done (judged true fit) in
              (same.0, left ∙ rw (by-block regular alternate l block at) same.1)

          -- what the writer of a fresh segment asks for
          pub room : ((l.selector ≤ 1) × (l.function ≤ 2047) × (6 ≤ l.array_words)) × ((base_of l + block.header.nlocals + 2 ≤ length s) × (length s ≤ 16384))
          room =
              let p = passes regular alternate l s (judged true fit) in
              ((p.function.selector, p.function.number, p.room.storage), (rw (by-block regular alternate l block at) p.room.stack, p.room.longest))

-- ---- the promise

pub promised : (s regular alternate : List ℕ) (l : Layout) (answer : Result (Unit {0}) Refusal) (after : List ℕ) → Answers s regular alternate l answer after
    → (status_of (numbered answer) ≡ lay_out_refusal s regular alternate l)
    × ((after ≡ laid_out s regular alternate l) × Promised s (call.lay_out (call.procedures regular alternate) l) (call.answer_of (numbered answer)) after)
unfolding Promised
promised s regular alternate l answer after e = (e.0, (e.1, λ words lent. rw (by-status answer e.0, e.1) (lay-out-did s (call.procedures regular alternate) l)))
