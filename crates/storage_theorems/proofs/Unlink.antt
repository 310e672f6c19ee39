-- A block that leaves the ring.
use Prim.Native.Nat.{ℕ, ◌+◌, ◌^◌, ◌<◌, ◌≤◌}
use mathlib.Core.Path.{◌≡◌, ◌∙◌, ap}
use mathlib.Core.Bool.{Bool}
use mathlib.Core.List.{List, [], ◌∷◌, ◌++◌}
use mathlib.Core.Logic.{◌≢◌, ⊎_elim}
use native.Mathlib.Omega.{arith}
use lib.ListN.{length}
use Rattle.segment.specs.Blocks.{next_at, last_at}
use Rattle.storage.specs.Ring.{set_next, set_last, unlink}
use Rattle.storage.specs.Heap.{Block, Walk, over, frees, hit, count, Links}
use Rattle.storage.proofs.Written.{set_next-length, set_next-other, set_last-other}
use Rattle.storage_theorems.proofs.Counts.{hit_same, hit-eq, count-append}
use Rattle.storage_theorems.proofs.Ring.{links-split, links-join, links-fields, snoc-cases}
use Rattle.storage_theorems.proofs.Fields.{set_next-next, set_next-last, set_last-last, set_last-next, set_next-next-other, set_last-last-other}
use Rattle.storage_theorems.proofs.Inner.{walk-second}

pub unlink-is : (s : List ℕ) (f b l : ℕ) → next_at s f ≡ b → last_at s f ≡ l → unlink s f ≡ set_last (set_next s l b) b l
unfolding unlink
unlink-is s f b l e k = rw (e, k)

-- the ring without a member
pub unlink-ring : (s : List ℕ) (f b : ℕ) (vs : List ℕ) → Links s f (b ∷ vs) f → ((x : ℕ) → count x (b ∷ vs) ≤ 1)
    → ((x : ℕ) → 0 < count x (b ∷ vs) → (x + 1 < length s) × (x < 2 ^ 16)) → Links (unlink s f) b vs b
unlink-ring s f b vs h one lim = ⊎_elim none some (snoc-cases vs)
  where
    none : vs ≡ [] → Links (unlink s f) b vs b
    none e =
        let k : Links s b [] f = rw e at h.1 in
        let w = lim b (omega (arith, hit_same b)) in
        rw (e, unlink-is s f b b h.0.next k.last)
        (record {
          next = set_last-next _ _ _ b w.1 ∙ set_next-next s b b w.0;
          last = set_last-last _ b b (omega (arith, w, set_next-length s b b)) w.1;
        })

    some : (us : List ℕ) × (e : ℕ) × (vs ≡ us ++ e ∷ []) → Links (unlink s f) b vs b
    some r = go r.0 r.1 r.2
      where
        go : (us : List ℕ) (e : ℕ) → vs ≡ us ++ e ∷ [] → Links (unlink s f) b vs b
        go us e q =
            let k : Links s b (us ++ e ∷ []) f = rw q at h.1 in
            let m = links-split s b us e [] f k in
            let c : (x : ℕ) → count x vs ≡ count x us + (hit x e + 0) = λ x. ap (count x) q ∙ count-append x us (e ∷ []) in
            let wb = lim b (omega (arith, hit_same b)) in
            let we = lim e (omega (arith, hit_same e, c e)) in
            let ne : e ≢ b = λ z. omega (arith, one e, c e, hit_same e, hit-eq e b z) in
            rw (q, unlink-is s f b e h.0.next m.1.last)
            (links-join _ b us e [] b
            (links-fields s _ b us e m.0
            (λ x w. set_last-next _ b e x we.1 ∙ set_next-next-other s e b x (λ z. omega (arith, w, one x, c x, hit-eq x e z)))
            (λ x w. set_last-last-other _ b e x (λ z. omega (arith, w, one x, c x, hit-eq x b z)) ∙ set_next-last s e b x)
            (set_last-last-other _ b e e ne ∙ set_next-last s e b e))
            (record {
              next = set_last-next _ b e e we.1 ∙ set_next-next s e b we.0;
              last = set_last-last _ b e (omega (arith, wb, set_next-length s e b)) we.1;
            }))

-- reads after an unlink
module _ (s : List ℕ) (f : ℕ) where
  pub unlink-walk : (a : ℕ) (p : Bool) (bs : List Block) → Walk s a p bs → 0 < count (last_at s f) (over a bs ∷ frees a bs)
      → 0 < count (next_at s f) (over a bs ∷ frees a bs)
      → Walk (unlink s f) a p bs
  unfolding unlink
  unlink-walk a p bs h l n =
      let m = set_next s (last_at s f) (next_at s f) in
      walk-second m _ (next_at s f) (λ i w. set_last-other m _ _ i w) a p bs
      (walk-second s m (last_at s f) (λ i w. set_next-other _ _ _ i w) a p bs h l) n
