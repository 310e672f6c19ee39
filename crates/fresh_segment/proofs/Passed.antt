-- What a lay out that is not refused has found, and the word of the bottom frame's function.
use Prim.Native.Nat.{ℕ, ◌+◌, ◌*◌, ◌^◌, ◌≤◌}
use mathlib.Core.Path.{◌≡◌}
use mathlib.Core.Bool.{true}
use mathlib.Core.List.{List}
use native.Mathlib.Omega.{arith}
use lib.ListN.{length}
use lib.Dec.{leb, eqb}
use borrow.Author.Tests.{leb-true, eqb-true, lt-ltb, eq-eqb, ne_eqb}
use Rattle.segment.specs.Stack as stack
use Rattle.procedure.specs.Directory.{has_function, nargs_of}
use Rattle.procedure.specs.Refusal.{procedure_refusal}
use Rattle.manual.specs.Control.{frame_word}
use Rattle.descriptor.proofs.Truth.{by-eq}
use Rattle.acceptance_storage.proofs.Tests.{both, passes}
use Rattle.acceptance.specs.Frames.{known, arguments, variables}
use Rattle.acceptance.specs.Refusal.{length_test}
use Rattle.acceptance.proofs.Structure.{line}
use Rattle.fresh_segment.specs.LayOut.{Layout, chosen, locals_of, function_test, base_of, parts_test, lay_out_refusal, fresh, laid_out}
use Rattle.fresh_segment.proofs.Words.{Room}

-- The word of the bottom frame's function.
abbrev pub word_of : Layout → ℕ
word_of l = frame_word (eqb l.selector 1) l.function

-- Test 20, as facts.
pub record BottomFunction (regular alternate : List ℕ) (l : Layout) : Type 0 where
  pub selector : l.selector ≤ 1
  pub number : l.function ≤ 2047
  pub present : has_function (chosen regular alternate l) l.function ≡ true
  pub niladic : nargs_of (chosen regular alternate l) l.function ≡ 0

pub record Passed (s regular alternate : List ℕ) (l : Layout) : Type 0 where
  pub shortest : 32 ≤ length s
  pub procedures : procedure_refusal regular alternate ≡ 0
  pub function : BottomFunction regular alternate l
  pub room : Room (length s) (locals_of regular alternate l) l

module _ (regular alternate : List ℕ) (l : Layout) where
  function-passed : function_test regular alternate l ≡ true → BottomFunction regular alternate l
  unfolding function_test
  function-passed h =
      let c = both _ (eqb (nargs_of (chosen regular alternate l) l.function) 0) h in
      let b = both _ (has_function (chosen regular alternate l) l.function) c.0 in
      let a = both (leb l.selector 1) (leb l.function 2047) b.0 in
      record {
        selector = leb-true _ _ a.0;
        number = leb-true _ _ a.1;
        present = b.1;
        niladic = eqb-true _ _ c.1;
      }

  module _ (s : List ℕ) where
    parts-passed : length s ≤ 16384 → parts_test s regular alternate l ≡ true → Room (length s) (locals_of regular alternate l) l
    unfolding parts_test
    parts-passed k h =
        let b = both _ (leb (base_of l + locals_of regular alternate l + 2) (length s)) h in
        let a = both (leb l.globals 4088) (leb 6 l.array_words) b.0 in
        record { longest = k; storage = leb-true _ _ a.1; stack = leb-true _ _ b.1 }

    pub passed : lay_out_refusal s regular alternate l ≡ 0 → Passed s regular alternate l
    unfolding lay_out_refusal
    passed h =
        let a = line (length_test s) _ 9 h in
        let k = both (leb 32 (length s)) (leb (length s) 16384) a.0 in
        by-eq (procedure_refusal regular alternate) 0
        (λ e.
        let b = line (function_test regular alternate l) _ 19 (simp (eq-eqb (procedure_refusal regular alternate) 0 e) at a.1) in
        let c = line (parts_test s regular alternate l) 0 18 b.1 in
        record {
          shortest = leb-true _ _ k.0;
          procedures = e;
          function = function-passed b.0;
          room = parts-passed (leb-true _ _ k.1) c.0;
        })
        (λ e. absurd (e (simp (ne_eqb (procedure_refusal regular alternate) 0 e) at a.1)))

    pub laid_out_lem : lay_out_refusal s regular alternate l ≡ 0
        → laid_out s regular alternate l ≡ fresh (length s) (locals_of regular alternate l) (word_of l) l
    unfolding laid_out
    laid_out_lem h = simp (eq-eqb (lay_out_refusal s regular alternate l) 0 h)

pub word_made : (l : Layout) → l.selector ≤ 1 → word_of l ≡ l.selector * 2 ^ 27 + l.function * 2 ^ 16 + 8
word_made l small =
    by-eq l.selector 1
    (λ e. rw (eq-eqb l.selector 1 e) (omega (arith, e)))
    (λ e. rw (ne_eqb l.selector 1 e) (omega (arith, e, small)))

module _ {regular alternate : List ℕ} {l : Layout} (h : BottomFunction regular alternate l) where
  made : word_of l ≡ l.selector * 2 ^ 27 + l.function * 2 ^ 16 + 8
  made = word_made l h.selector

  word-alternate : stack.alternate_bit (word_of l) ≡ l.selector
  word-alternate = rw made (omega (arith, h.selector, h.number))

  word-function : stack.function_number (word_of l) ≡ l.function
  word-function = rw made (omega (arith, h.selector, h.number))

  pub word-known : known regular alternate (word_of l) ≡ true
  unfolding known
  word-known = passes (lt-ltb (word_of l) (2 ^ 28) (omega (arith, made, h.selector, h.number))) (rw (word-alternate, word-function) h.present)

  pub word-arguments : arguments regular alternate (word_of l) ≡ 0
  unfolding arguments
  word-arguments = rw (word-alternate, word-function) h.niladic

  pub word-variables : variables regular alternate (word_of l) ≡ locals_of regular alternate l
  unfolding variables
  word-variables = rw (word-arguments, word-alternate, word-function) (omega arith)
