-- Loops that write a list: word by word, or by copies of a part.
use Prim.Native.Nat.{ℕ, zero, suc, ◌+◌, ◌-◌, ◌*◌, ◌≤◌, ◌<◌, min}
use native.Mathlib.Nat.{le_of_suc-le-suc, not-suc-le-zero, add-zero, suc-mul, le_of_lt, zero-add, zero-mul, mul-one, eq-zero-or-pos, add-sub_cancel_left}
use mathlib.Core.Logic.{⊎_elim}
use native.Mathlib.Numerals.{add-one}
use native.Mathlib.Omega.{arith}
use mathlib.Core.Path.{◌≡◌, refl, sym, ap, ◌∙◌}
use mathlib.Core.List.{List, ◌++◌, append_assoc, append-nil}
use lib.ListN.{length, get_or, take, drop, set, replicate, length-replicate, get_or-replicate, length-drop, get_or-append}
use borrow.Rule.Slice.PartMut.{put_mid, Post-is}
use lib.Seq.{ext_get_or, take_at, take-add, drop-append-add, drop-drop, get_or-drop, set_at, take-suc, drop-cons, append_snoc, length-take-le, take-length, drop-length, get_or-take, get_or-append-add}
use Rattle.manual.specs.Values.{cycle, repeated, up_from}
use Rattle.manual.proofs.Elements.{length-cycle}

-- the first i words of d are those of goal, and the rest are those of d₀
pub record Filled (goal d₀ d : List ℕ) (i : ℕ) : Type 0 where
  pub so_far : d ≡ take i goal ++ drop i d₀

pub begun : {goal d₀ : List ℕ} → Filled goal d₀ d₀ 0
begun = record { so_far = refl }

pub filled_on : {goal d₀ d : List ℕ} {i v : ℕ} → Filled goal d₀ d i → i < length goal → i < length d₀ → v ≡ get_or goal i 0 → Filled goal d₀ (set d i v) (i + 1)
filled_on {goal} {d₀} {d} {i} {v} f hg hd e =
    record {
      so_far =
          rw (f.so_far, e, add-one i)
          (ap (λ (r : List ℕ). set (take i goal ++ r) i (get_or goal i 0)) (drop-cons d₀ i 0 hd)
          ∙ set_at (take i goal) (get_or d₀ i 0) (drop (suc i) d₀) (get_or goal i 0) i (length-take-le i goal (le_of_lt hg))
          ∙ sym (append_snoc (take i goal) (get_or goal i 0) (drop (suc i) d₀))
          ∙ ap (λ (r : List ℕ). r ++ drop (suc i) d₀) (sym (take-suc goal i 0 hg)));
    }

pub filled-all : {goal d₀ d : List ℕ} {i : ℕ} → Filled goal d₀ d i → length goal ≡ i → length d₀ ≡ i → d ≡ goal
filled-all {goal} {d₀} {d} {i} f hg hd =
    f.so_far ∙ ap (λ (k : ℕ). take k goal ++ drop i d₀) (sym hg) ∙ ap (λ (k : ℕ). take (length goal) goal ++ drop k d₀) (sym hd)
    ∙ rw (take-length goal, drop-length d₀) (append-nil goal)

-- a part is written by one copy
pub filled-part : {goal d₀ d part : List ℕ} {i e : ℕ} → Filled goal d₀ d i → i ≤ e → e ≤ length goal → part ≡ take (e - i) (drop i goal) → Filled goal d₀ (put_mid i (e - i) d part) e
filled-part {goal} {d₀} {d} {part} {i} {e} f h g p =
    record {
      so_far =
          rw (f.so_far, Post-is i e (take i goal ++ drop i d₀) h, take_at (take i goal) (drop i d₀) i front, p)
          (ap (λ (l : List ℕ). take i goal ++ (take (e - i) (drop i goal) ++ l)) behind
          ∙ sym (append_assoc (take i goal) (take (e - i) (drop i goal)) (drop e d₀))
          ∙ ap (λ (l : List ℕ). l ++ drop e d₀) (sym (take-add i (e - i) goal) ∙ ap (λ (k : ℕ). take k goal) sum));
    }
  where
    front : length (take i goal) ≡ i
    front = length-take-le i goal (omega arith)

    sum : i + (e - i) ≡ e
    sum = omega arith

    behind : drop e (take i goal ++ drop i d₀) ≡ drop e d₀
    behind =
        ap (λ (k : ℕ). drop k (take i goal ++ drop i d₀)) (sym (ap (λ (k : ℕ). k + (e - i)) front ∙ sum))
        ∙ drop-append-add (take i goal) (drop i d₀) (e - i) ∙ drop-drop (e - i) i d₀ ∙ ap (λ (k : ℕ). drop k d₀) sum

-- ---- copies

get_or-repeated : (k q j : ℕ) (r : List ℕ) → q < k → j < length r → get_or (repeated k r) (q * length r + j) 0 ≡ get_or r j 0
get_or-repeated zero q j r h l = absurd (not-suc-le-zero h)
get_or-repeated (suc k) zero j r h l = rw (zero-mul (length r), zero-add j) (get_or-append r (repeated k r) 0 j l)
get_or-repeated (suc k) (suc q) j r h l =
    ap (λ (m : ℕ). get_or (r ++ repeated k r) m 0) (rw (suc-mul q (length r)) (omega arith))
    ∙ get_or-append-add r (repeated k r) (q * length r + j) 0
    ∙ get_or-repeated k q j r (le_of_suc-le-suc h) l

-- i is some rounds and j
record Round (i j : ℕ) (r : List ℕ) : Type 0 where
  rounds : ℕ
  is : i ≡ rounds * length r + j
  below : j < length r

le-times : (q m : ℕ) → 0 < m → q ≤ q * m
le-times zero m h = omega arith
le-times (suc q) m h = rw (suc-mul q m) (omega (arith, le-times q m h))

-- where there is something to write there is something to take
pub filled-from : {n : ℕ} (r : List ℕ) → (length r ≡ 0 → n ≡ 0) → 0 < n → 0 < length r
filled-from {n} r h l = ⊎_elim (λ (e : length r ≡ 0). absurd (omega (arith, h e))) (λ (e : 0 < length r). e) (eq-zero-or-pos (length r))

cycle-at : {n i j : ℕ} {r : List ℕ} → i < n → Round i j r → get_or r j 0 ≡ get_or (cycle n r) i 0
unfolding cycle
cycle-at {n} {i} {j} {r} h p =
    let b : p.rounds ≤ p.rounds * length r = le-times p.rounds (length r) (omega (arith, p.below)) in
    let e = p.is in
    sym (get_or-take n (repeated n r) i 0 h ∙ ap (λ (m : ℕ). get_or (repeated n r) m 0) e ∙ get_or-repeated n p.rounds j r (omega arith) p.below)

-- one word, round and round
pub cycle-single : (n : ℕ) (r : List ℕ) → length r ≡ 1 → replicate n (get_or r 0 0) ≡ cycle n r
cycle-single n r h =
    ext_get_or 0 (replicate n (get_or r 0 0)) (cycle n r) (length-replicate n (get_or r 0 0) ∙ sym (length-cycle n r (λ e. absurd (omega arith))))
    (λ i l. at i (rw (length-replicate n (get_or r 0 0)) at l))
  where
    at : (i : ℕ) → i < n → get_or (replicate n (get_or r 0 0)) i 0 ≡ get_or (cycle n r) i 0
    at i l = get_or-replicate n i (get_or r 0 0) 0 l ∙ cycle-at l (record { rounds = i; is = rw (h, mul-one i) (sym (add-zero i)); below = omega arith })

-- i is whole rounds, or the end
pub record Rounds (i n : ℕ) (r : List ℕ) : Type 0 where
  pub rounds : ℕ
  pub is : i < n → i ≡ rounds * length r

pub rounds-start : {n : ℕ} {r : List ℕ} → Rounds 0 n r
rounds-start {n} {r} = record { rounds = 0; is = λ h. sym (zero-mul (length r)) }

pub rounds-on : {i n c : ℕ} {r : List ℕ} → Rounds i n r → i < n → c ≡ min (length r) (n - i) → Rounds (i + c) n r
rounds-on {i} {n} {c} {r} p h e = record { rounds = suc p.rounds; is = λ k. rw (suc-mul p.rounds (length r)) (omega (arith, p.is h)) }

-- the words of a round are the source's
pub round_is : {i n c : ℕ} {r : List ℕ} → Rounds i n r → i < n → (length r ≡ 0 → n ≡ 0) → c ≡ min (length r) (n - i) → take c r ≡ take (i + c - i) (drop i (cycle n r))
round_is {i} {n} {c} {r} p h s e =
    rw (add-sub_cancel_left i c)
    (ext_get_or 0 (take c r) (take c (drop i (cycle n r))) (length-take-le c r (omega arith) ∙ sym long) (λ j l. at j (rw (length-take-le c r (omega arith)) at l)))
  where
    long : length (take c (drop i (cycle n r))) ≡ c
    long = length-take-le c (drop i (cycle n r)) (rw (length-drop i (cycle n r), length-cycle n r s) (omega arith))

    at : (j : ℕ) → j < c → get_or (take c r) j 0 ≡ get_or (take c (drop i (cycle n r))) j 0
    at j l =
        get_or-take c r j 0 l
        ∙ cycle-at {n = n} {i = i + j} {j = j} {r = r} (omega arith) (record { rounds = p.rounds; is = omega (arith, p.is h); below = omega arith })
        ∙ sym (get_or-take c (drop i (cycle n r)) j 0 l ∙ get_or-drop i (cycle n r) j 0)

-- a round fits its part
pub round-fits : (c i : ℕ) (r d : List ℕ) → c ≤ length r → i + c ≤ length d → length (take c r) ≡ length (take (i + c - i) (drop i d))
round-fits c i r d h k = rw (add-sub_cancel_left i c) (length-take-le c r h ∙ sym (length-take-le c (drop i d) (rw (length-drop i d) (omega arith))))

-- ---- numbers that follow one another

pub length-up_from : (k n : ℕ) → length (up_from k n) ≡ n
unfolding up_from
length-up_from k zero = refl
length-up_from k (suc n) = ap suc (length-up_from (suc k) n)

pub get_or-up_from : (k n i : ℕ) → i < n → k + i ≡ get_or (up_from k n) i 0
unfolding up_from
get_or-up_from k zero i h = absurd (not-suc-le-zero h)
get_or-up_from k (suc n) zero h = add-zero k
get_or-up_from k (suc n) (suc i) h = omega (arith, get_or-up_from (suc k) n i (le_of_suc-le-suc h))
