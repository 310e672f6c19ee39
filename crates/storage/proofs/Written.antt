-- Which words a request and the head of an array write: every other word, and the length, is left as it was.
use Rattle.std.proofs.Common.{◌≡◌, ℕ, ◌+◌, ◌-◌, ◌<◌, ◌≤◌, ◌≢◌, ◌⊎◌, List, length, get_or, ◌∙◌, inl, inr, ⊎_elim, arith, length-set, get_or-set_other}
use Rattle.descriptor.proofs.Truth.{by_le}
use Rattle.segment.specs.Blocks.{size_at, next_at, last_at}
use Rattle.segment.proofs.Fields.{set_rover-other}
use Rattle.segment.proofs.Copies.{sets-other}
use Rattle.storage.specs.Ring.{set_next, set_last, clear_prev_free, unlink}
use Rattle.storage.specs.Request.{split, given_whole, give}
use Rattle.storage.specs.Arrays.{head}
use Rattle.storage.proofs.Requests.{give-split, give-whole}

-- a link
module _ (s : List ℕ) (a v : ℕ) where
  pub set_next-length : length (set_next s a v) ≡ length s
  unfolding set_next
  set_next-length = simp length-set

  pub set_next-other : (i : ℕ) → i ≢ a + 1 → get_or (set_next s a v) i 0 ≡ get_or s i 0
  unfolding set_next
  set_next-other i h = rw get_or-set_other

  pub set_last-length : length (set_last s a v) ≡ length s
  unfolding set_last
  set_last-length = simp length-set

  pub set_last-other : (i : ℕ) → i ≢ a + 1 → get_or (set_last s a v) i 0 ≡ get_or s i 0
  unfolding set_last
  set_last-other i h = rw get_or-set_other

-- a block that leaves the ring
module _ (s : List ℕ) (f : ℕ) where
  pub unlink-length : length (unlink s f) ≡ length s
  unfolding unlink
  unlink-length = set_last-length _ _ _ ∙ set_next-length _ _ _

  pub unlink-other : (i : ℕ) → (i ≢ last_at s f + 1) × (i ≢ next_at s f + 1) → get_or (unlink s f) i 0 ≡ get_or s i 0
  unfolding unlink
  unlink-other i h = set_last-other _ _ _ i h.1 ∙ set_next-other _ _ _ i h.0

-- a block given: its high end, and all of it
module _ (s : List ℕ) (f rest size : ℕ) where
  pub split-length : length (split s f rest size) ≡ length s
  unfolding split clear_prev_free
  split-length = simp length-set

  pub split-other : (i : ℕ) → (i ≢ f) × (i ≢ f + rest - 1) × (i ≢ f + rest) × (i ≢ f + rest + size) → get_or (split s f rest size) i 0 ≡ get_or s i 0
  unfolding split clear_prev_free
  split-other i h = simp (get_or-set_other, h.0, h.1, h.2, h.3)

module _ (s : List ℕ) (f slop size : ℕ) where
  pub whole_length : length (given_whole s f slop size) ≡ length s
  unfolding given_whole clear_prev_free
  whole_length = simp length-set (unlink-length s f)

  pub whole-other : (i : ℕ) → (i ≢ f) × (i ≢ f + size + slop) → get_or (given_whole s f slop size) i 0 ≡ get_or (unlink s f) i 0
  unfolding given_whole clear_prev_free
  whole-other i h = simp (get_or-set_other, h.0, h.1)

-- either way: ROVER, the free block with the first word behind it, and the links of its neighbours
pub give-other : (s : List ℕ) (f size i : ℕ) → size ≤ size_at s f → i ≢ 1 → (i < f) ⊎ (f + size_at s f < i) → (i ≢ last_at s f + 1) × (i ≢ next_at s f + 1)
    → get_or (give s f size) i 0 ≡ get_or s i 0
give-other s f size i room state block links =
    by_le (size + 3) (size_at s f)
    (λ big. rw (give-split s f size big)
    (set_rover-other _ _ i state
    ∙ split-other s f (size_at s f - size) size i (⊎_elim (λ below. omega (arith, below)) (λ above. omega (arith, above)) block)))
    (λ tight. rw (give-whole s f size tight)
    (set_rover-other _ _ i state
    ∙ whole-other s f (size_at s f - size) size i (⊎_elim (λ below. omega (arith, below)) (λ above. omega (arith, above)) block)
    ∙ unlink-other s f i links))

-- the head of an array
pub head-other : (s : List ℕ) (a : ℕ) (shape : List ℕ) (i : ℕ) → (i ≤ a) ⊎ (a + 2 + length shape ≤ i) → get_or (head s a shape) i 0 ≡ get_or s i 0
head-other s a shape i h =
    let n : i ≢ a + 1 = ⊎_elim (λ q. omega (arith, q)) (λ q. omega (arith, q)) h in
    sets-other shape _ (a + 2) i (⊎_elim (λ q. inl (omega (arith, q))) (λ q. inr (omega (arith, q))) h) ∙ rw get_or-set_other
