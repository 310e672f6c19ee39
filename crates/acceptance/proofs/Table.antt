-- What the answers of two tests say.
use Prim.Native.Nat.{ℕ, ◌+◌, ◌≤◌}
use mathlib.Core.Path.{◌≡◌, refl, sym, ◌∙◌}
use mathlib.Core.Bool.{Bool, true, false}
use mathlib.Core.List.{List}
use native.Mathlib.Omega.{arith}
use lib.ListN.{length}
use lib.Dec.{leb}
use borrow.Author.Tests.{leb-true}
use Rattle.segment.specs.State.{ltop, lbase}
use Rattle.std.proofs.Common.{Option, Some, None}
use Rattle.acceptance_storage.specs.Blocks.{free_starts, blocks_test}
use Rattle.acceptance_storage.specs.Answer.{blocks_answer}
use Rattle.acceptance_storage.proofs.Tests.{both}
use Rattle.acceptance.specs.Frames.{frames_test}

module _ (s : List ℕ) {r : Option ℕ} (q : r ≡ blocks_answer s) where
  pub improper : r ≡ None → blocks_test s ≡ false
  unfolding blocks_answer
  improper e = go (blocks_test s) refl
    where
      go : (b : Bool) → blocks_test s ≡ b → blocks_test s ≡ false
      go false k = k
      go true k = absurd (let z : None ≡ Some (length (free_starts s)) = sym e ∙ q ∙ simp k in let y : ◌≡◌ {A = ℕ} 0 1 = cc in omega arith)

  pub proper : (n : ℕ) → r ≡ Some n → (blocks_test s ≡ true) × (n ≡ length (free_starts s))
  unfolding blocks_answer
  proper n e = go (blocks_test s) refl
    where
      go : (b : Bool) → blocks_test s ≡ b → (blocks_test s ≡ true) × (n ≡ length (free_starts s))
      go false k = absurd (let z : Some n ≡ None = sym e ∙ q ∙ simp k in let y : ◌≡◌ {A = ℕ} 0 1 = cc in omega arith)
      go true k = let z : Some n ≡ Some (length (free_starts s)) = sym e ∙ q ∙ simp k in (k, (cc))

pub frames-top : (s regular alternate : List ℕ) → frames_test s regular alternate ≡ true → lbase s + 1 ≤ ltop s
unfolding frames_test
frames-top s regular alternate h = leb-true _ _ (both (leb (lbase s + 1) (ltop s)) _ h).0
