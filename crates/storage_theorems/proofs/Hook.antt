-- A block that goes into the ring, after the dummy or in another's place.
use Prim.Native.Nat.{ℕ, ◌+◌, ◌*◌, ◌/◌, ◌%◌, ◌^◌, ◌<◌, ◌≤◌}
use mathlib.Core.Path.{◌≡◌, sym, ◌∙◌, ap}
use mathlib.Core.Bool.{Bool}
use mathlib.Core.List.{List, [], ◌∷◌, ◌++◌}
use mathlib.Core.Logic.{◌≢◌, ⊎_elim}
use native.Mathlib.Omega.{arith}
use lib.ListN.{get_or, set, length, length-set}
use lib.Seq.{get_or-set_same, get_or-set_other}
use Rattle.segment.specs.Blocks.{next_at, last_at, dummy}
use Rattle.storage.specs.Ring.{set_next, hook, insert}
use Rattle.storage.specs.Heap.{Block, Walk, over, frees, hit, count, Link, Links}
use Rattle.storage.proofs.Written.{set_next-length, set_next-other, set_last-length, set_last-other}
use Rattle.storage_theorems.specs.Words.{Inner}
use Rattle.storage_theorems.proofs.Counts.{hit_same, hit-eq, count-append}
use Rattle.storage_theorems.proofs.Ring.{links-split, links-join, links-last, links-fields, snoc-cases}
use Rattle.storage_theorems.proofs.Fields.{set_next-next, set_next-last, set_last-last, set_last-next, set_next-next-other, set_last-last-other}
use Rattle.storage_theorems.proofs.Inner.{walk-second, walk-inner}

module _ (s : List ℕ) (a w l n : ℕ) where
  pub hook-length : length (hook s a w l n) ≡ length s
  unfolding hook
  hook-length = set_last-length _ _ _ ∙ set_next-length _ _ _ ∙ simp length-set

  pub hook-other : (i : ℕ) → (i ≢ a + 1) × (i ≢ l + 1) × (i ≢ n + 1) → get_or (hook s a w l n) i 0 ≡ get_or s i 0
  unfolding hook
  hook-other i h = set_last-other _ _ _ i h.2 ∙ set_next-other _ _ _ i h.1 ∙ simp (get_or-set_other, h.0)

  module _ (a16 : a < 2 ^ 16) (al : a ≢ l) (an : a ≢ n) (la : a + 1 < length s) (ll : l + 1 < length s) (ln : n + 1 < length s) where
    pub hook-next : next_at (hook s a w l n) l ≡ a
    unfolding hook
    hook-next = set_last-next _ n a l a16 ∙ set_next-next _ l a (simp length-set ll)

    pub hook-last : last_at (hook s a w l n) n ≡ a
    unfolding hook
    hook-last = set_last-last _ n a (omega (arith, set_next-length (set s (a + 1) w) l a, length-set s (a + 1) w)) a16

    pub hook-next-a : next_at (hook s a w l n) a ≡ w / 2 ^ 16
    unfolding hook
    hook-next-a = set_last-next _ n a a a16 ∙ set_next-next-other _ l a a al ∙ rw get_or-set_same

    pub hook-last-a : last_at (hook s a w l n) a ≡ w % 2 ^ 16
    unfolding hook
    hook-last-a = set_last-last-other _ n a a an ∙ set_next-last _ l a a ∙ rw get_or-set_same

    pub hook-next-other : (x : ℕ) → x ≢ l → x ≢ a → next_at (hook s a w l n) x ≡ next_at s x
    unfolding hook
    hook-next-other x h k =
        let d : x + 1 ≢ a + 1 = λ q. k (omega arith) in
        set_last-next _ n a x a16 ∙ set_next-next-other _ l a x h ∙ rw get_or-set_other

    pub hook-last-other : (x : ℕ) → x ≢ n → x ≢ a → last_at (hook s a w l n) x ≡ last_at s x
    unfolding hook
    hook-last-other x h k =
        let d : x + 1 ≢ a + 1 = λ q. k (omega arith) in
        set_last-last-other _ n a x h ∙ set_next-last _ l a x ∙ rw get_or-set_other

  pub hook-walk : (b : ℕ) (p : Bool) (bs : List Block) → Walk s b p bs → Inner b bs (a + 1) → 0 < count l (over b bs ∷ frees b bs)
      → 0 < count n (over b bs ∷ frees b bs) → Walk (hook s a w l n) b p bs
  unfolding hook
  hook-walk b p bs h i cl cn =
      let s1 = set s (a + 1) w in
      let s2 = set_next s1 l a in
      walk-second s2 _ n (λ i k. set_last-other s2 _ _ i k) b p bs
      (walk-second s1 s2 l (λ i k. set_next-other s1 _ _ i k) b p bs (walk-inner s s1 (a + 1) (λ i (k : i ≢ a + 1). rw get_or-set_other) b p bs h i) cl)
      cn

-- the ring with `a` after `d`
pub insert-ring : (s : List ℕ) (a w d n : ℕ) (u : List ℕ) → Links s d u d → ((x : ℕ) → count x (d ∷ u) ≤ 1)
    → ((x : ℕ) → 0 < count x (d ∷ u) → (x + 1 < length s) × (a ≢ x))
    → a < 2 ^ 16 → a + 1 < length s → next_at s d ≡ n → w / 2 ^ 16 ≡ n → w % 2 ^ 16 ≡ d → Links (hook s a w d n) d (a ∷ u) d
insert-ring s a w d n [] h one lim a16 la e wn wl =
    let q = lim d (omega (arith, hit_same d)) in
    let nd : n ≡ d = sym e ∙ h.next in
    let an : a ≢ n = omega (arith, q.1) in
    let ln : n + 1 < length s = omega (arith, q.0) in (
      record { next = hook-next s a w d n a16 q.1 an la q.0 ln; last = hook-last-a s a w d n a16 q.1 an la q.0 ln ∙ wl },
      record {
        next = hook-next-a s a w d n a16 q.1 an la q.0 ln ∙ wn ∙ nd;
        last = ap (last_at (hook s a w d n)) (sym nd) ∙ hook-last s a w d n a16 q.1 an la q.0 ln;
      },
    )
insert-ring s a w d n (b ∷ vs) h one lim a16 la e wn wl =
    let q = lim d (omega (arith, hit_same d)) in
    let nb : n ≡ b = sym e ∙ h.0.next in
    let r = lim n (omega (arith, hit-eq n b nb)) in (
      record { next = hook-next s a w d n a16 q.1 r.1 la q.0 r.0; last = hook-last-a s a w d n a16 q.1 r.1 la q.0 r.0 ∙ wl },
      (
        record {
          next = hook-next-a s a w d n a16 q.1 r.1 la q.0 r.0 ∙ wn ∙ nb;
          last = ap (last_at (hook s a w d n)) (sym nb) ∙ hook-last s a w d n a16 q.1 r.1 la q.0 r.0;
        },
        links-fields s (hook s a w d n) b vs d h.1
            (λ x k. hook-next-other s a w d n a16 q.1 r.1 la q.0 r.0 x (λ z. omega (arith, k, one x, hit-eq x d z))
            (λ z. (lim x (omega (arith, k))).1 (sym z)))
            (λ x k. hook-last-other s a w d n a16 q.1 r.1 la q.0 r.0 x (λ z. omega (arith, k, one x, hit-eq x b (z ∙ nb)))
            (λ z. (lim x (omega (arith, k))).1 (sym z)))
            (hook-last-other s a w d n a16 q.1 r.1 la q.0 r.0 d (λ z. omega (arith, one d, hit_same d, hit-eq d b (z ∙ nb)))
            (λ z. q.1 (sym z))),
      ),
    )

-- the ring with `a` in the place of `q`
pub relink-ring : (s : List ℕ) (a w q b l : ℕ) (vs : List ℕ) → Links s q (b ∷ vs) q → ((x : ℕ) → count x (b ∷ vs) ≤ 1)
    → ((x : ℕ) → 0 < count x (b ∷ vs) → (x + 1 < length s) × (a ≢ x))
    → a < 2 ^ 16 → a + 1 < length s → w / 2 ^ 16 ≡ b → w % 2 ^ 16 ≡ l → last_at s q ≡ l → Links (hook s a w l b) a (b ∷ vs) a
relink-ring s a w q b l vs h one lim a16 la wb wl e = (first, ⊎_elim none some (snoc-cases vs))
  where
    rb : (b + 1 < length s) × (a ≢ b)
    rb = lim b (omega (arith, hit_same b))

    rl : (l + 1 < length s) × (a ≢ l)
    rl = lim l (omega (arith, links-last s b vs q h.1, hit-eq l (last_at s q) (sym e), ap (λ (y : ℕ). count y (b ∷ vs)) e))

    first : Link (hook s a w l b) a b
    first =
        record {
          next = hook-next-a s a w l b a16 rl.1 rb.1 la rl.0 rb.0 ∙ wb;
          last = hook-last s a w l b a16 rl.1 rb.1 la rl.0 rb.0;
        }

    final : Link (hook s a w l b) l a
    final =
        record {
          next = hook-next s a w l b a16 rl.1 rb.1 la rl.0 rb.0;
          last = hook-last-a s a w l b a16 rl.1 rb.1 la rl.0 rb.0 ∙ wl;
        }

    none : vs ≡ [] → Links (hook s a w l b) b vs a
    none z =
        let k : Links s b [] q = rw z at h.1 in
        let lb : l ≡ b = sym e ∙ k.last in
        rw z (record { next = ap (next_at (hook s a w l b)) (sym lb) ∙ final.next; last = final.last ∙ lb })

    join : (us : List ℕ) (y : ℕ) → vs ≡ us ++ y ∷ [] → Links s b (us ++ y ∷ []) q → Links (hook s a w l b) b (us ++ y ∷ []) a
    join us y z k =
        let m = links-split s b us y [] q k in
        let c : (x : ℕ) → count x vs ≡ count x us + (hit x y + 0) = λ x. ap (count x) z ∙ count-append x us (y ∷ []) in
        let ly : l ≡ y = sym e ∙ m.1.last in
        links-join (hook s a w l b) b us y [] a
        (links-fields s (hook s a w l b) b us y m.0
        (λ x v. hook-next-other s a w l b a16 rl.1 rb.1 la rl.0 rb.0 x (λ t. omega (arith, v, one x, c x, hit-eq x y (t ∙ ly)))
        (λ t. (lim x (omega (arith, v, c x))).1 (sym t)))
        (λ x v. hook-last-other s a w l b a16 rl.1 rb.1 la rl.0 rb.0 x (λ t. omega (arith, v, one x, c x, hit-eq x b t))
        (λ t. (lim x (omega (arith, v, c x))).1 (sym t)))
        (hook-last-other s a w l b a16 rl.1 rb.1 la rl.0 rb.0 y (λ t. omega (arith, one y, c y, hit_same y, hit-eq y b t))
        (λ t. (lim y (omega (arith, c y, hit_same y))).1 (sym t))))
        (record { next = ap (next_at (hook s a w l b)) (sym ly) ∙ final.next; last = final.last ∙ ly })

    some : (us : List ℕ) × (y : ℕ) × (vs ≡ us ++ y ∷ []) → Links (hook s a w l b) b vs a
    some r = rw r.2 (join r.0 r.1 r.2 (rw r.2 at h.1))

pub insert-is : (s : List ℕ) (a d : ℕ) → dummy s ≡ d → insert s a ≡ hook s a (next_at s d * 2 ^ 16 + d) d (next_at s d)
unfolding insert
insert-is s a d e = rw e
