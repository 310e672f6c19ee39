-- Laws of the sum of two signed magnitudes. Assumes nothing.
--     like, less, more      the sign and the magnitude, by the signs and the order of the magnitudes
--     plus-near             two multiples of one power of two: the sum is exact
--     plus-far              a magnitude and a far smaller one: the sum is given up to a sticky bit
--     plus_comm, plus-zero-left, plus-zero-right, plus-integers
use Rattle.std.proofs.Common.{◌≡◌, ℕ, ◌+◌, ◌-◌, ◌*◌, ◌/◌, ◌%◌, ◌^◌, ◌<◌, ◌≤◌, Bool, true, false, sym, refl, ap, ◌∙◌, subst, ap₂, ⊎_elim, lt_trans, lt_of_lt_of_le, le_of_lt, mul-le-mul_right, mod-eq_of_lt, mul_assoc, mul_comm, add-mul, eq-zero-or-pos, add_comm, eq-or-lt_of_le, mul-lt-mul_of_pos_right, mul-pos, zero-add, zero-mul, mul-one, sub-add_cancel, div-one, mul-div_cancel, arith, lit<, pow_pos, pow_mono, pow-add, le-ltb, lt-ltb, eq-eqb, ne_eqb, Ok}
use native.Mathlib.Nat.{sub-zero, mul-sub}
use native.Mathlib.Decide.{ℕ_discrete, dec_lt}
use Rattle.scalar.specs.Results.{Answer}
use Rattle.scalar.specs.Results.{rounded, integer, result}
use Rattle.scalar.specs.Operators.{sum_sign, sum_size, plus, minus}
use Rattle.descriptor.specs.Fields.{sign, magnitude}
use Rattle.scalar.specs.Value.{one, units, one_float}
use Rattle.scalar.specs.Parts.{SignedSum, signed_place, distance_of}
use Rattle.scalar.proofs.Operands.{both-integers}
use Rattle.scalar.proofs.Units.{units-integer}
use Rattle.scalar.proofs.Rounding.{rounded-none, rounded-same, not-lt-le, join, up_lt}
use Rattle.scalar.proofs.Sticky.{rounded-sticky}

abbrev pub Sum : (s n t m sign size : ℕ) → Type 0
Sum s n t m sign size = (sum_sign s n t m ≡ sign) × (sum_size s n t m ≡ size)

module _ (s n t m : ℕ) where
  pub like : s ≡ t → Sum s n t m s (n + m)
  unfolding sum_sign sum_size
  like h = (simp (eq-eqb s t h), simp (eq-eqb s t h))

  pub less : (s ≡ t → ⊥) → n < m → Sum s n t m t (m - n)
  unfolding sum_sign sum_size
  less h l = (simp (ne_eqb s t h, lt-ltb n m l), simp (ne_eqb s t h, lt-ltb n m l))

  pub more : (s ≡ t → ⊥) → m ≤ n → Sum s n t m s (n - m)
  unfolding sum_sign sum_size
  more h l = (simp (ne_eqb s t h, le-ltb n m l), simp (ne_eqb s t h, le-ltb n m l))

  -- what holds in each of the three cases holds
  pub cases : (P : Type 0) → (s ≡ t → P) → ((s ≡ t → ⊥) → n < m → P) → ((s ≡ t → ⊥) → m ≤ n → P) → P
  cases P f g h = elim (ℕ_discrete s t) [
    | yes e ↦ f e
    | no e ↦ elim (dec_lt n m) [
      | yes l ↦ g e l
      | no l ↦ h e (not-lt-le l)
    ]
  ]

  pub sign-lt : s < 2 → t < 2 → sum_sign s n t m < 2
  sign-lt p q = cases (sum_sign s n t m < 2) (λ e. subst (λ (x : ℕ). x < 2) (sym (like e).0) p) (λ e l. subst (λ (x : ℕ). x < 2) (sym (less e l).0) q) (λ e l. subst (λ (x : ℕ). x < 2) (sym (more e l).0) p)

  pub plus-float : plus true s n t m ≡ rounded (sum_sign s n t m) (sum_size s n t m) 1
  unfolding plus result
  plus-float = refl

  plus-by : (sign size : ℕ) → Sum s n t m sign size → plus true s n t m ≡ rounded sign size 1
  plus-by sign size h = plus-float ∙ ap₂ (λ (x y : ℕ). rounded x y 1) h.0 h.1

-- ---- the order of the operands

pub plus_comm : (s n t m : ℕ) → plus true s n t m ≡ plus true t m s n
plus_comm s n t m = cases s n t m (plus true s n t m ≡ plus true t m s n)
    (λ e. plus-by s n t m s (n + m) (like s n t m e) ∙ ap₂ (λ (x y : ℕ). rounded x y 1) e (add_comm n m) ∙ sym (plus-by t m s n t (m + n) (like t m s n (sym e))))
    (λ e l. plus-by s n t m t (m - n) (less s n t m e l) ∙ sym (plus-by t m s n t (m - n) (more t m s n (λ i. e (sym i)) (le_of_lt l))))
    (λ e l. ⊎_elim
    (λ (q : m ≡ n). plus-by s n t m s (n - m) (more s n t m e l) ∙ nothing s n m q ∙ sym (nothing t m n (sym q)) ∙ sym (plus-by t m s n t (m - n) (more t m s n (λ i. e (sym i)) (omega arith))))
    (λ (q : m < n). plus-by s n t m s (n - m) (more s n t m e l) ∙ sym (plus-by t m s n s (n - m) (less t m s n (λ i. e (sym i)) q)))
    (eq-or-lt_of_le l))
  where
    nothing : (x a b : ℕ) → b ≡ a → rounded x (a - b) 1 ≡ Ok 0
    nothing x a b q = ap (λ (y : ℕ). rounded x y 1) (let z : a - b ≡ 0 = omega arith in z) ∙ rounded-none x 1

pub plus-zero-left : (s t m : ℕ) → plus true s 0 t m ≡ rounded t m 1
plus-zero-left s t m = cases s 0 t m (plus true s 0 t m ≡ rounded t m 1)
    (λ e. plus-by s 0 t m s (0 + m) (like s 0 t m e) ∙ ap₂ (λ (x y : ℕ). rounded x y 1) e (zero-add m))
    (λ e l. plus-by s 0 t m t (m - 0) (less s 0 t m e l) ∙ ap (λ (y : ℕ). rounded t y 1) (sub-zero m))
    (λ e l. let z : m ≡ 0 = omega arith in plus-by s 0 t m s (0 - m) (more s 0 t m e l) ∙ ap (λ (y : ℕ). rounded s (0 - y) 1) z ∙ rounded-none s 1 ∙ sym (ap (λ (y : ℕ). rounded t y 1) z ∙ rounded-none t 1))

pub plus-zero-right : (s n t : ℕ) → plus true s n t 0 ≡ rounded s n 1
plus-zero-right s n t = plus_comm s n t 0 ∙ plus-zero-left t s n

-- ---- multiples of one number

sub-mul : (n m d : ℕ) → n * d - m * d ≡ (n - m) * d
sub-mul n m d = sym (mul_comm (n - m) d ∙ mul-sub d n m ∙ ap₂ ◌-◌ (mul_comm d n) (mul_comm d m))

pub scaled : (s n t m d : ℕ) → 0 < d → Sum s (n * d) t (m * d) (sum_sign s n t m) (sum_size s n t m * d)
scaled s n t m d p = cases s n t m (Sum s (n * d) t (m * d) (sum_sign s n t m) (sum_size s n t m * d))
    (λ e. let a = like s (n * d) t (m * d) e in let b = like s n t m e in (a.0 ∙ sym b.0, a.1 ∙ sym (add-mul n m d) ∙ ap (λ (x : ℕ). x * d) (sym b.1)))
    (λ e l. let a = less s (n * d) t (m * d) e (mul-lt-mul_of_pos_right l p) in let b = less s n t m e l in (a.0 ∙ sym b.0, a.1 ∙ sub-mul m n d ∙ ap (λ (x : ℕ). x * d) (sym b.1)))
    (λ e l. let a = more s (n * d) t (m * d) e (mul-le-mul_right d l) in let b = more s n t m e l in (a.0 ∙ sym b.0, a.1 ∙ sub-mul n m d ∙ ap (λ (x : ℕ). x * d) (sym b.1)))

-- x * 2 ^ e units, over 2 ^ 150
pub over : (s x e : ℕ) → rounded s (x * 2 ^ e) 1 ≡ rounded s (x * 2 ^ (e + 150)) (2 ^ 150)
over s x e = rounded-same s (x * 2 ^ e) 1 (x * 2 ^ (e + 150)) (2 ^ 150) (lit< tt) (pow_pos 150) (mul_assoc x (2 ^ e) (2 ^ 150) ∙ ap (λ (y : ℕ). x * y) (sym (pow-add 2 e 150)) ∙ sym (mul-one (x * 2 ^ (e + 150))))

pub plus-near : (s n t m e : ℕ) → plus true s (n * 2 ^ e) t (m * 2 ^ e) ≡ rounded (sum_sign s n t m) (sum_size s n t m * 2 ^ (e + 150)) (2 ^ 150)
plus-near s n t m e = plus-by s (n * 2 ^ e) t (m * 2 ^ e) (sum_sign s n t m) (sum_size s n t m * 2 ^ e) (scaled s n t m (2 ^ e) (pow_pos e)) ∙ over (sum_sign s n t m) (sum_size s n t m) e

pub plus-integers : (s n t m : ℕ) → plus false s (n * 2 ^ 150) t (m * 2 ^ 150) ≡ integer (sum_sign s n t m) (sum_size s n t m)
unfolding plus result
plus-integers s n t m =
    let k = scaled s n t m (2 ^ 150) (pow_pos 150) in
    ap₂ (λ (x y : ℕ). integer x (y / 1 / 2 ^ 150)) k.0 k.1 ∙ ap (λ (y : ℕ). integer (sum_sign s n t m) y) (ap (λ (y : ℕ). y / 2 ^ 150) (div-one (sum_size s n t m * 2 ^ 150)) ∙ mul-div_cancel (sum_size s n t m) (pow_pos 150))

-- ---- n * 2 ^ e and a magnitude m far below: n has 23 digits and m is less than a quarter of 2 ^ e

-- the bounds that `rounded-sticky` asks, with p for 2 ^ e and c for 2 ^ 147
module _ (n p m c : ℕ) (a : 0 < m) (b : m * 4 < p) (g : 0 < c) where
  like-lo : 2 * (4 * n) * (p * c * 1) < (n * p + m) * (8 * c)
  like-lo = let k = mul-pos a g in omega arith

  like-hi : (n * p + m) * (8 * c) < (2 * (4 * n) + 2) * (p * c * 1)
  like-hi = let k = mul-lt-mul_of_pos_right b g in omega arith

  module _ (h x : ℕ) (i : h + 1 ≡ 4 * n) (j : x + m ≡ n * p) where
    unlike-lo : 2 * h * (p * c * 1) < x * (8 * c)
    unlike-lo = let k = mul-lt-mul_of_pos_right b g in let u = ap (λ (y : ℕ). y * (p * c)) i in let v = ap (λ (y : ℕ). y * c) j in omega arith

    unlike-hi : x * (8 * c) < (2 * h + 2) * (p * c * 1)
    unlike-hi = let k = mul-pos a g in let u = ap (λ (y : ℕ). y * (p * c)) i in let v = ap (λ (y : ℕ). y * c) j in omega arith

module _ (s n t m e : ℕ) (l : 2 ^ 22 ≤ n) (a : 0 < m) (b : m * 4 < 2 ^ e) where
  -- 2 ^ (e + 147), as the bounds have it
  power : 2 ^ e * 2 ^ 147 * 1 ≡ 2 ^ (e + 147) * 1
  power = ap (λ (y : ℕ). y * 1) (sym (pow-add 2 e 147))

  -- x is three more digits of n, the last of them sticky
  pub far-like : s ≡ t → (x : ℕ) → x ≡ n * 8 + 1 → rounded s (x * 2 ^ (e + 147)) (2 ^ 150) ≡ plus true s (n * 2 ^ e) t m
  far-like q x f =
      sym (plus-by s (n * 2 ^ e) t m s (n * 2 ^ e + m) (like s (n * 2 ^ e) t m q)
      ∙ rounded-sticky s (n * 2 ^ e + m) 1 (4 * n) (e + 147) (lit< tt) (omega arith)
      (subst (λ (y : ℕ). 2 * (4 * n) * y < (n * 2 ^ e + m) * 2 ^ 150) power (like-lo n (2 ^ e) m (2 ^ 147) a b (pow_pos 147)))
      (subst (λ (y : ℕ). (n * 2 ^ e + m) * 2 ^ 150 < (2 * (4 * n) + 2) * y) power (like-hi n (2 ^ e) m (2 ^ 147) a b (pow_pos 147)))
      ∙ ap (λ (y : ℕ). rounded s (y * 2 ^ (e + 147)) (2 ^ 150)) (let z : 2 * (4 * n) + 1 ≡ x = omega arith in z))

  -- m is less than the other
  below : m ≤ n * 2 ^ e
  below = let k = mul-le-mul_right {m = 1} {n = n} (2 ^ e) (omega arith) in omega arith

  pub far-unlike : (s ≡ t → ⊥) → (x : ℕ) → x ≡ n * 8 - 1 → rounded s (x * 2 ^ (e + 147)) (2 ^ 150) ≡ plus true s (n * 2 ^ e) t m
  far-unlike q x f =
      let i : 4 * n - 1 + 1 ≡ 4 * n = omega arith in
      let j : n * 2 ^ e - m + m ≡ n * 2 ^ e = sub-add_cancel below in
      sym (plus-by s (n * 2 ^ e) t m s (n * 2 ^ e - m) (more s (n * 2 ^ e) t m q below)
      ∙ rounded-sticky s (n * 2 ^ e - m) 1 (4 * n - 1) (e + 147) (lit< tt) (omega arith)
      (subst (λ (y : ℕ). 2 * (4 * n - 1) * y < (n * 2 ^ e - m) * 2 ^ 150) power (unlike-lo n (2 ^ e) m (2 ^ 147) a b (pow_pos 147) (4 * n - 1) (n * 2 ^ e - m) i j))
      (subst (λ (y : ℕ). (n * 2 ^ e - m) * 2 ^ 150 < (2 * (4 * n - 1) + 2) * y) power (unlike-hi n (2 ^ e) m (2 ^ 147) a b (pow_pos 147) (4 * n - 1) (n * 2 ^ e - m) i j))
      ∙ ap (λ (y : ℕ). rounded s (y * 2 ^ (e + 147)) (2 ^ 150)) (let z : 2 * (4 * n - 1) + 1 ≡ x = omega arith in z))

-- ---- aligning: g * 2 ^ f as a multiple of 2 ^ e, or g * 2 ^ e far below 2 ^ f

pub shifted-lt : (g d : ℕ) → g < 2 ^ 23 → d ≤ 38 → (g * 2 ^ d) % 2 ^ 64 < 2 ^ 62
shifted-lt g d h k = let l = lt_of_lt_of_le (up_lt g 23 d (23 + d) h refl) (pow_mono {i = 23 + d} {j = 62} (omega arith)) in subst (λ (x : ℕ). x < 2 ^ 62) (sym (mod-eq_of_lt (lt_trans l (lit< tt)))) l

pub aligned : (g d e f : ℕ) → g < 2 ^ 23 → d ≤ 38 → d + e ≡ f → (g * 2 ^ d) % 2 ^ 64 * 2 ^ e ≡ g * 2 ^ f
aligned g d e f h k s =
    ap (λ (x : ℕ). x * 2 ^ e) (mod-eq_of_lt (lt_of_lt_of_le (up_lt g 23 d (23 + d) h refl) (pow_mono {i = 23 + d} {j = 64} (omega arith)))) ∙ mul_assoc g (2 ^ d) (2 ^ e) ∙ ap (λ (x : ℕ). g * x) (join d e f s)

pub tiny : (g e f : ℕ) → g < 2 ^ 23 → e + 38 < f → g * 2 ^ e * 4 < 2 ^ f
tiny g e f h k = lt_of_lt_of_le (up_lt (g * 2 ^ e) (23 + e) 2 (25 + e) (up_lt g 23 e (23 + e) h refl) (omega arith)) (pow_mono {i = 25 + e} {j = f} (omega arith))

-- ---- a sum with zero, of magnitudes u and v that are given as g * 2 ^ e and q * 2 ^ f

module _ (s t u v g e q f : ℕ) (x : u ≡ g * 2 ^ e) (y : v ≡ q * 2 ^ f) where
  pub without-left : g ≡ 0 → rounded t (q * 2 ^ (f + 150)) (2 ^ 150) ≡ plus true s u t v
  without-left z =
      sym (ap (λ (n : ℕ). plus true s n t v) (x ∙ ap (λ (n : ℕ). n * 2 ^ e) z ∙ zero-mul (2 ^ e)) ∙ plus-zero-left s t v ∙ ap (λ (n : ℕ). rounded t n 1) y ∙ over t q f)

  pub without-right : q ≡ 0 → rounded s (g * 2 ^ (e + 150)) (2 ^ 150) ≡ plus true s u t v
  without-right z =
      sym (ap (λ (n : ℕ). plus true s u t n) (y ∙ ap (λ (n : ℕ). n * 2 ^ f) z ∙ zero-mul (2 ^ f)) ∙ plus-zero-right s u t ∙ ap (λ (n : ℕ). rounded s n 1) x ∙ over s g e)

-- ---- the sum of two places on the line around 2 ^ 62

place-plus : (s n : ℕ) → s ≡ 0 → signed_place (2 ^ 62) s n ≡ 2 ^ 62 + n
place-plus s n h = simp (eq-eqb s 0 h)

place-minus : (s n : ℕ) → (s ≡ 0 → ⊥) → signed_place (2 ^ 62) s n ≡ 2 ^ 62 - n
place-minus s n h = simp (ne_eqb s 0 h)

pub place-lt : (s n : ℕ) → n < 2 ^ 62 → signed_place (2 ^ 62) s n < 2 ^ 63
place-lt s n h = elim (ℕ_discrete s 0) [
  | yes e ↦ omega (arith, place-plus s n e)
  | no e ↦ omega (arith, place-minus s n e)
]

-- x lies d above 2 ^ 63, or d below it
above : (x d : ℕ) → x ≡ 2 ^ 63 + d → d < 2 ^ 63 → (distance_of x ≡ d) × (1 - x / 2 ^ 63 ≡ 0)
above x d h l = (simp (le-ltb x (2 ^ 63) (omega arith)) (omega arith), omega arith)

below_by : (x d : ℕ) → x + d ≡ 2 ^ 63 → 0 < d → (distance_of x ≡ d) × (1 - x / 2 ^ 63 ≡ 1)
below_by x d h l = (simp (lt-ltb x (2 ^ 63) (omega arith)) (omega arith), omega arith)

-- the sign g and the magnitude d of a number whose place is x
abbrev Located : ℕ → ℕ → ℕ → Type 0
Located x g d = (distance_of x ≡ d) × (0 < d → 1 - x / 2 ^ 63 ≡ g)

up-from : (x g d : ℕ) → g ≡ 0 → x ≡ 2 ^ 63 + d → d < 2 ^ 63 → Located x g d
up-from x g d e h l = let k = above x d h l in (k.0, λ z. k.1 ∙ sym e)

down-from : (x g d : ℕ) → g ≡ 1 → x + d ≡ 2 ^ 63 → Located x g d
down-from x g d e h =
    ⊎_elim
    (λ (z : d ≡ 0). let k = above x 0 (omega arith) (lit< tt) in (k.0 ∙ sym z, λ y. absurd (omega arith)))
    (λ (z : 0 < d). let k = below_by x d h z in (k.0, λ y. k.1 ∙ sym e))
    (eq-zero-or-pos d)

-- a sign is 0 or 1
pub either : (P : Type 0) (s : ℕ) → s < 2 → (s ≡ 0 → P) → (s ≡ 1 → P) → P
either P s h f g = ⊎_elim (λ (e : s ≡ 0). f e) (λ (l : 0 < s). g (omega arith)) (eq-zero-or-pos s)

module _ (s n t m : ℕ) (p : s < 2) (q : t < 2) (i : n < 2 ^ 62) (j : m < 2 ^ 62) where
  abbrev pub line : ℕ
  line = signed_place (2 ^ 62) s n + signed_place (2 ^ 62) t m

  -- the sum has the sign g and the magnitude d
  made : (g d : ℕ) → Sum s n t m g d → Located line g d → d < 2 ^ 63 → SignedSum s n t m (1 - line / 2 ^ 63) (distance_of line)
  made g d k e l =
      record {
        magnitude = e.0 ∙ sym k.1;
        signed = λ z. e.1 (subst (λ (x : ℕ). 0 < x) e.0 z) ∙ sym k.0;
        bit = omega arith;
        short = subst (λ (x : ℕ). x < 2 ^ 63) (sym e.0) l;
      }

  Goal : Type 0
  Goal = SignedSum s n t m (1 - line / 2 ^ 63) (distance_of line)

  alike : s ≡ t → Goal
  unfolding Goal
  alike e =
      made s (n + m) (like s n t m e)
      (either (Located line s (n + m)) s p
      (λ z. up-from line s (n + m) z (omega (arith, place-plus s n z, place-plus t m (omega arith))) (omega arith))
      (λ z. down-from line s (n + m) z (omega (arith, place-minus s n (λ y. omega arith), place-minus t m (λ y. omega arith)))))
      (omega arith)

  lower : (s ≡ t → ⊥) → n < m → Goal
  unfolding Goal
  lower e l =
      made t (m - n) (less s n t m e l)
      (either (Located line t (m - n)) t q
      (λ z. up-from line t (m - n) z (omega (arith, place-minus s n (λ y. e (omega arith)), place-plus t m z)) (omega arith))
      (λ z. down-from line t (m - n) z (omega (arith, place-plus s n (omega (arith, e)), place-minus t m (λ y. omega arith)))))
      (omega arith)

  higher : (s ≡ t → ⊥) → m ≤ n → Goal
  unfolding Goal
  higher e l =
      made s (n - m) (more s n t m e l)
      (either (Located line s (n - m)) s p
      (λ z. up-from line s (n - m) z (omega (arith, place-plus s n z, place-minus t m (λ y. e (omega arith)))) (omega arith))
      (λ z. down-from line s (n - m) z (omega (arith, place-minus s n (λ y. omega arith), place-plus t m (omega (arith, e))))))
      (omega arith)

  -- from the places x and y, and the distance d
  pub added : (x y d : ℕ) → x ≡ signed_place (2 ^ 62) s n → y ≡ signed_place (2 ^ 62) t m → d ≡ distance_of (x + y) → SignedSum s n t m (1 - (x + y) / 2 ^ 63) d
  unfolding Goal
  added x y d e f h =
      let k : x + y ≡ line = ap₂ ◌+◌ e f in
      subst (λ (z : ℕ). SignedSum s n t m (1 - z / 2 ^ 63) d) (sym k) (subst (λ (z : ℕ). SignedSum s n t m (1 - line / 2 ^ 63) z) (sym (h ∙ ap distance_of k)) (cases s n t m Goal alike lower higher))

-- ---- what is made of a sum's sign and magnitude: zero has either sign

module _ (s n t m g d : ℕ) (k : SignedSum s n t m g d) where
  -- what an answer makes of them, if it makes the same of zero with either sign
  same : (f : ℕ → ℕ → Answer) → ((x y : ℕ) → f x 0 ≡ f y 0) → f g d ≡ f (sum_sign s n t m) (sum_size s n t m)
  same f h =
      ⊎_elim
      (λ (z : d ≡ 0). ap (f g) z ∙ h g (sum_sign s n t m) ∙ ap (f (sum_sign s n t m)) (sym z ∙ k.magnitude))
      (λ (z : 0 < d). ap₂ f (k.signed z) k.magnitude)
      (eq-zero-or-pos d)

  pub added-integer : integer g d ≡ plus false s (n * one) t (m * one)
  unfolding integer
  added-integer = same integer (λ x y. refl) ∙ sym (plus-integers s n t m)

  pub added-near : (e : ℕ) → rounded g (d * 2 ^ (e + 150)) one ≡ plus true s (n * 2 ^ e) t (m * 2 ^ e)
  added-near e = same (λ x y. rounded x (y * 2 ^ (e + 150)) one) (λ x y. nothing x ∙ sym (nothing y)) ∙ sym (plus-near s n t m e)
    where
      nothing : (x : ℕ) → rounded x (0 * 2 ^ (e + 150)) one ≡ Ok 0
      nothing x = ap (λ (y : ℕ). rounded x y one) (zero-mul (2 ^ (e + 150))) ∙ rounded-none x one

-- ---- the sum of two words

pub sum-integers : (a b s t : ℕ) → a / 2 ^ 30 % 2 ≡ 0 → b / 2 ^ 30 % 2 ≡ 0 → plus false s (magnitude a * one) t (magnitude b * one) ≡ plus (one_float a b) s (units a) t (units b)
sum-integers a b s t h k =
    sym (ap (λ (x : Bool). plus x s (units a) t (units b)) (both-integers a b h k) ∙ ap₂ (λ (x y : ℕ). plus false s x t y) (units-integer a h) (units-integer b k))

pub minus-integers : (a b : ℕ) → a / 2 ^ 30 % 2 ≡ 0 → b / 2 ^ 30 % 2 ≡ 0 → plus false (sign a) (magnitude a * one) (1 - sign b) (magnitude b * one) ≡ minus a b
unfolding minus
minus-integers a b h k = sum-integers a b (sign a) (1 - sign b) h k
