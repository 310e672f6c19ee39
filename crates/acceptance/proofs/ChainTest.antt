-- Test 16 passes exactly where the frames are a chain.
use Prim.Native.Nat.{ℕ, zero, suc, ◌+◌, ◌<◌, ◌≤◌}
use mathlib.Core.Path.{◌≡◌, refl}
use mathlib.Core.Bool.{true}
use mathlib.Core.List.{List, [], ◌∷◌}
use native.Mathlib.Omega.{arith}
use lib.Dec.{leb}
use borrow.Author.Tests.{leb-true, eqb-true, le-leb, eq-eqb, ne_eqb}
use Rattle.segment.specs.Stack.{last_lbase_at, code_word_at}
use Rattle.descriptor.proofs.Truth.{by-eq}
use Rattle.acceptance_storage.proofs.Tests.{never, both}
use Rattle.acceptance.specs.Frames.{known, variables, frames_pass}
use Rattle.acceptance.specs.Structure.{FrameChain}

pub chain-sound : (n : ℕ) (s regular alternate : List ℕ) (base : ℕ) → frames_pass n (known regular alternate) (variables regular alternate) s base ≡ true
    → (older : List ℕ) × FrameChain s regular alternate base older
unfolding frames_pass
chain-sound zero s regular alternate base h = absurd (never h)
chain-sound (suc n) s regular alternate base h =
    let a = both (known regular alternate (code_word_at s base)) _ h in
    by-eq (last_lbase_at s base) base
    (λ e. ([], record { function = a.0; itself = e; start = eqb-true (variables regular alternate (code_word_at s base)) base (simp (eq-eqb (last_lbase_at s base) base e) at a.1) }))
    (λ e. let b = both (leb (last_lbase_at s base + 2 + variables regular alternate (code_word_at s base)) base) _ (simp (ne_eqb (last_lbase_at s base) base e) at a.1) in
    let r = chain-sound n s regular alternate (last_lbase_at s base) b.1 in
    (last_lbase_at s base ∷ r.0, (record { function = a.0; last = refl; start = leb-true _ _ b.0 }, r.1)))

pub chain-complete : (n : ℕ) (s regular alternate : List ℕ) (base : ℕ) (older : List ℕ) → base < n → FrameChain s regular alternate base older
    → frames_pass n (known regular alternate) (variables regular alternate) s base ≡ true
unfolding frames_pass
chain-complete zero s regular alternate base older l h = absurd (omega arith)
chain-complete (suc n) s regular alternate base [] l h =
    simp (h.function, eq-eqb (last_lbase_at s base) base h.itself, eq-eqb (variables regular alternate (code_word_at s base)) base h.start)
chain-complete (suc n) s regular alternate base (next ∷ older) l h =
    let m : last_lbase_at s base + 2 + variables regular alternate (code_word_at s base) ≤ base = omega (arith, h.0.last, h.0.start) in
    simp (h.0.function, ne_eqb (last_lbase_at s base) base (λ z. omega (arith, z, m)), le-leb (last_lbase_at s base + 2 + variables regular alternate (code_word_at s base)) base m)
    (rw h.0.last (chain-complete n s regular alternate next older (omega (arith, h.0.start)) h.1))
