-- What is read after one field was written anew.
use Prim.Native.Nat.{ℕ, ◌+◌, ◌-◌, ◌/◌, ◌%◌, ◌^◌, ◌<◌, ◌≤◌}
use mathlib.Core.Path.{◌≡◌, ◌∙◌, ap}
use mathlib.Core.List.{List}
use mathlib.Core.Logic.{◌≢◌, ⊎_elim}
use native.Mathlib.Omega.{arith}
use lib.ListN.{get_or, length, length-set}
use lib.Seq.{set_out, get_or-set_same, get_or-set_other, lt-length-set}
use Rattle.segment.specs.State.{rover}
use Rattle.segment.specs.Blocks.{next_at, last_at}
use Rattle.storage.specs.Ring.{set_next, set_last, set_prev_free, mark_free, move_rover}
use Rattle.storage.specs.Heap.{hit}
use Rattle.storage.proofs.Releases.{move_rover-on, move_rover-off}
use Rattle.segment.proofs.Fields.{set_rover-other, set_rover-rover, set_rover-length, set_rover-base}
use Rattle.storage.proofs.Written.{set_next-other, set_last-other}
use Rattle.storage_theorems.proofs.Counts.{order, hit-cases}

module _ (s : List ℕ) (a v : ℕ) where
  pub set_next-next : a + 1 < length s → next_at (set_next s a v) a ≡ v
  unfolding set_next
  set_next-next h = rw get_or-set_same (omega arith)

  pub set_next-last : (x : ℕ) → last_at (set_next s a v) x ≡ last_at s x
  unfolding set_next
  set_next-last x =
      ⊎_elim (λ (l : length s ≤ a + 1). rw set_out)
      (λ (l : a + 1 < length s). ⊎_elim (λ (e : (x ≡ a) × (hit x a ≡ 1)). rw (e.0, get_or-set_same) (omega arith))
      (λ (e : (x ≡ a → ⊥) × (hit x a ≡ 0)). let d : x + 1 ≢ a + 1 = λ q. e.0 (omega arith) in rw get_or-set_other) (hit-cases x a))
      (order (length s) (a + 1))

  pub set_last-last : a + 1 < length s → v < 2 ^ 16 → last_at (set_last s a v) a ≡ v
  unfolding set_last
  set_last-last h k = rw get_or-set_same (omega arith)

  pub set_last-next : (x : ℕ) → v < 2 ^ 16 → next_at (set_last s a v) x ≡ next_at s x
  unfolding set_last
  set_last-next x k =
      ⊎_elim (λ (l : length s ≤ a + 1). rw set_out)
      (λ (l : a + 1 < length s). ⊎_elim (λ (e : (x ≡ a) × (hit x a ≡ 1)). rw (e.0, get_or-set_same) (omega arith))
      (λ (e : (x ≡ a → ⊥) × (hit x a ≡ 0)). let d : x + 1 ≢ a + 1 = λ q. e.0 (omega arith) in rw get_or-set_other) (hit-cases x a))
      (order (length s) (a + 1))

pub set_next-next-other : (s : List ℕ) (a v x : ℕ) → x ≢ a → next_at (set_next s a v) x ≡ next_at s x
set_next-next-other s a v x h = ap (λ (w : ℕ). w / 2 ^ 16) (set_next-other s a v (x + 1) (λ q. h (omega arith)))

pub set_last-last-other : (s : List ℕ) (a v x : ℕ) → x ≢ a → last_at (set_last s a v) x ≡ last_at s x
set_last-last-other s a v x h = ap (λ (w : ℕ). w % 2 ^ 16) (set_last-other s a v (x + 1) (λ q. h (omega arith)))

-- reads after the stores of a release
pub set_prev_free-length : (s : List ℕ) (a : ℕ) → length (set_prev_free s a) ≡ length s
unfolding set_prev_free
set_prev_free-length s a = simp length-set

pub set_prev_free-other : (s : List ℕ) (a i : ℕ) → i ≢ a → get_or (set_prev_free s a) i 0 ≡ get_or s i 0
unfolding set_prev_free
set_prev_free-other s a i h = rw get_or-set_other

pub set_prev_free-same : (s : List ℕ) (a : ℕ) → a < length s → get_or (set_prev_free s a) a 0 ≡ get_or s a 0 % 2 ^ 30 + 2 ^ 30
unfolding set_prev_free
set_prev_free-same s a h = rw get_or-set_same

module _ (s : List ℕ) (p n : ℕ) where
  pub mark_free-length : length (mark_free s p n) ≡ length s
  unfolding mark_free
  mark_free-length = simp length-set

  pub mark_free-other : (i : ℕ) → (i ≢ p) × (i ≢ p + n - 1) → get_or (mark_free s p n) i 0 ≡ get_or s i 0
  unfolding mark_free
  mark_free-other i h = simp (get_or-set_other, h.0, h.1)

  pub mark_free-first : 3 ≤ n → p + n ≤ length s → get_or (mark_free s p n) p 0 ≡ 2 ^ 31 + n
  unfolding mark_free
  mark_free-first h k =
      let e : p ≢ p + n - 1 = omega arith in
      let l : p < length s = omega arith in
      simp (get_or-set_other, get_or-set_same)

  pub mark_free-end : 3 ≤ n → p + n ≤ length s → get_or (mark_free s p n) (p + n - 1) 0 ≡ n
  unfolding mark_free
  mark_free-end h k =
      let l : p + n - 1 < length s = omega arith in
      simp (get_or-set_same, lt-length-set)

pub move_rover-length : (s : List ℕ) (q p : ℕ) → length (move_rover s q p) ≡ length s
move_rover-length s q p =
    ⊎_elim (λ e. ap length (move_rover-on s q p e.0) ∙ set_rover-length s p) (λ e. ap length (move_rover-off s q p e.0)) (hit-cases (rover s) q)

pub move_rover-other : (s : List ℕ) (q p i : ℕ) → i ≢ 1 → get_or (move_rover s q p) i 0 ≡ get_or s i 0
move_rover-other s q p i h =
    ⊎_elim (λ e. ap (λ (l : List ℕ). get_or l i 0) (move_rover-on s q p e.0) ∙ set_rover-other s p i h)
    (λ e. ap (λ (l : List ℕ). get_or l i 0) (move_rover-off s q p e.0)) (hit-cases (rover s) q)

pub move_rover-base : (s : List ℕ) (q p : ℕ) → 1 < length s → p < 2 ^ 16 → get_or (move_rover s q p) 1 0 / 2 ^ 16 ≡ get_or s 1 0 / 2 ^ 16
move_rover-base s q p l k =
    ⊎_elim (λ e. ap (λ (u : List ℕ). get_or u 1 0 / 2 ^ 16) (move_rover-on s q p e.0) ∙ set_rover-base s p l k)
    (λ e. ap (λ (u : List ℕ). get_or u 1 0 / 2 ^ 16) (move_rover-off s q p e.0)) (hit-cases (rover s) q)

-- ROVER moves exactly where it stood on the vanished block
pub move_rover-moves : (s : List ℕ) (q p : ℕ) → 1 < length s → p < 2 ^ 16
    → (rover s ≡ q → rover (move_rover s q p) ≡ p) × (rover s ≢ q → rover (move_rover s q p) ≡ rover s)
move_rover-moves s q p l k = (λ e. ap rover (move_rover-on s q p e) ∙ set_rover-rover s p l k, λ e. ap rover (move_rover-off s q p e))
