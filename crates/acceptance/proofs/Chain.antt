-- Test 16 at one frame, by what the code reads of it: what the frames from there down come to.
use Prim.Native.Nat.{ℕ, zero, suc, ◌+◌, ◌-◌, ◌<◌, ◌≤◌}
use mathlib.Core.Path.{◌≡◌, refl, sym, ◌∙◌}
use mathlib.Core.Bool.{Bool, true, false, cond, ◌&&◌}
use mathlib.Core.List.{List}
use native.Mathlib.Omega.{arith}
use lib.ListN.{length}
use lib.Dec.{leb, eqb}
use borrow.Author.Tests.{leb-true, eqb-true, le-leb, lt-leb, eq-eqb, ne_eqb}
use Rattle.segment.specs.State.{lbase, ltop}
use Rattle.segment.specs.Stack.{last_lbase_at, code_word_at, function_number}
use Rattle.procedure.specs.declared.header.Header.{Header}
use Rattle.procedure.specs.Directory.{header_of_function}
use Rattle.descriptor.proofs.Truth.{by_le, by-eq}
use Rattle.acceptance_storage.proofs.Tests.{both}
use Rattle.acceptance.specs.declared.frames.Frame.{Frame}
use Rattle.acceptance.specs.Frames.{frame_segment, known, arguments, variables, frames_pass, frames_test, FrameAt}
use Rattle.acceptance.specs.Tables.{chain_test}

module _ (has : ℕ → Bool) (size : ℕ → ℕ) (s : List ℕ) (base : ℕ) where
  pub frames-none : (n : ℕ) → n ≤ 0 → frames_pass n has size s base ≡ false
  unfolding frames_pass
  frames-none zero h = refl
  frames-none (suc n) h = absurd (omega arith)

  pub frames-step : (n : ℕ) → 0 < n → frames_pass n has size s base
      ≡ has (code_word_at s base)
      && cond (eqb (last_lbase_at s base) base) (eqb (size (code_word_at s base)) base)
      (leb (last_lbase_at s base + 2 + size (code_word_at s base)) base && frames_pass (n - 1) has size s (last_lbase_at s base))
  unfolding frames_pass
  frames-step zero h = absurd (omega arith)
  frames-step (suc n) h = let e : suc n - 1 ≡ n = omega arith in rw e

-- The frames from the one at `base` down, by at most `n` of them.
abbrev pub chain_from : ℕ → List ℕ → List ℕ → List ℕ → ℕ → Bool
chain_from n s regular alternate base = frames_pass n (known regular alternate) (variables regular alternate) s base

pub chain-start : (s regular alternate : List ℕ) (base : ℕ) {n : ℕ} → n ≡ length s → chain_test s regular alternate base ≡ chain_from n s regular alternate base
chain-start s regular alternate base all = rw all

module _ (s regular alternate : List ℕ) (base n : ℕ) (pos : 0 < n) {frame : Frame} (f : FrameAt s regular alternate base frame) where
  step : chain_from n s regular alternate base
      ≡ known regular alternate frame.code && cond (eqb frame.last.0 base) (eqb frame.variables base)
      (leb (frame.last.0 + 2 + frame.variables) base && chain_from (n - 1) s regular alternate frame.last.0)
  step = frames-step (known regular alternate) (variables regular alternate) s base n pos ∙ rw (f.code, f.variables, f.last)

  pub absent : known regular alternate frame.code ≡ false → chain_from n s regular alternate base ≡ false
  absent h = step ∙ simp h

  module _ (h : known regular alternate frame.code ≡ true) where
    pub bottom : frame.last.0 ≡ base → chain_from n s regular alternate base ≡ eqb frame.variables base
    bottom z = step ∙ simp (h, eq-eqb frame.last.0 base z)

    module _ (z : frame.last.0 ≡ base → ⊥) where
      pub low : base < frame.last.0 + 2 + frame.variables → chain_from n s regular alternate base ≡ false
      low l = step ∙ simp (h, ne_eqb frame.last.0 base z, lt-leb (frame.last.0 + 2 + frame.variables) base l)

      pub further : frame.last.0 + 2 + frame.variables ≤ base → {less : ℕ} → less ≡ n - 1 → chain_from n s regular alternate base ≡ chain_from less s regular alternate frame.last.0
      further l fewer = rw fewer (step ∙ simp (h, ne_eqb frame.last.0 base z, le-leb (frame.last.0 + 2 + frame.variables) base l))

-- What is known of a frame once test 16 has passed.
module _ (s regular alternate : List ℕ) (base n : ℕ) (pos : 0 < n) {frame : Frame} (f : FrameAt s regular alternate base frame)
    (t : chain_from n s regular alternate base ≡ true) where
  pub few-arguments : frame.arguments ≤ frame.variables
  unfolding variables
  few-arguments = omega (arith, f.arguments, f.variables)

  rest : cond (eqb frame.last.0 base) (eqb frame.variables base)
      (leb (frame.last.0 + 2 + frame.variables) base && chain_from (n - 1) s regular alternate frame.last.0) ≡ true
  rest = (both (known regular alternate frame.code) _ (sym (step s regular alternate base n pos f) ∙ t)).1

  starts : (frame.last.0 ≡ base → ⊥) → (frame.last.0 + 2 + frame.variables ≤ base) × (chain_from (n - 1) s regular alternate frame.last.0 ≡ true)
  starts e =
      let b = both (leb (frame.last.0 + 2 + frame.variables) base) _ (simp (ne_eqb frame.last.0 base e) at rest) in
      (leb-true (frame.last.0 + 2 + frame.variables) base b.0, b.1)

  pub above : frame.last.0 < base → (frame.last.0 + 2 + frame.variables ≤ base) × (chain_from (n - 1) s regular alternate frame.last.0 ≡ true)
  above l = starts (λ e. omega (arith, e))

  pub at-bottom : base ≤ frame.last.0 → frame.variables ≡ base
  at-bottom l =
      by-eq frame.last.0 base (λ e. eqb-true frame.variables base (simp (eq-eqb frame.last.0 base e) at rest))
      (λ e. absurd (omega (arith, (starts e).0)))

  pub low-enough : frame.variables ≤ base
  low-enough = by_le base frame.last.0 (λ l. omega (arith, at-bottom l)) (λ l. omega (arith, (above l).0))

module _ (s regular alternate : List ℕ) where
  pub short : {base top : ℕ} → base ≡ lbase s → top ≡ ltop s → top < base + 1 → frames_test s regular alternate ≡ false
  unfolding frames_test
  short b t h = simp (lt-leb (lbase s + 1) (ltop s) (rw (b, t) at h))

  pub long : {base top : ℕ} → base ≡ lbase s → top ≡ ltop s → base + 1 ≤ top → frames_test s regular alternate ≡ chain_test s regular alternate base
  unfolding frames_test
  long b t h = rw b (simp (le-leb (lbase s + 1) (ltop s) (rw (b, t) at h)))

-- What the header of a frame's function says.
module _ (regular alternate : List ℕ) {h : Header} (code : ℕ) {w : ℕ} (e : h ≡ header_of_function (frame_segment regular alternate code) (function_number code)) (k : code ≡ w) where
  pub header-arguments : h.nargs ≡ arguments regular alternate w
  unfolding arguments
  header-arguments = rw (e, k)

  pub header-variables : h.nargs + h.nlocals ≡ variables regular alternate w
  unfolding variables arguments
  header-variables = rw (e, k)
