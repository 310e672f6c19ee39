-- The words of a frame: a run of undefined locals, and the frame's two words after it.
use Prim.Native.Nat.{ℕ, suc, ◌+◌, ◌-◌, ◌≤◌}
use native.Mathlib.Omega.{arith}
use mathlib.Core.Path.{◌≡◌, sym, ap, ◌∙◌}
use mathlib.Core.List.{List, [], ◌∷◌, ◌++◌}
use lib.ListN.{length, take, drop, set, replicate, length-replicate, length-drop}
use lib.Seq.{sets, length-take-le}
use borrow.Rule.Slice.PartMut.{put_mid}
use Rattle.segment.proofs.Copies.{filled, sets-append}

-- the part from i to e filled with one word
pub filled-with : (s ys : List ℕ) (n c i e : ℕ) → i + n ≡ e → e ≤ length s → ys ≡ replicate (length (take (e - i) (drop i s))) c →
    put_mid i (e - i) s ys ≡ sets s i (replicate n c)
filled-with s ys n c i e ends fits run =
    filled s ys (replicate n c) i e (run ∙ ap (λ (k : ℕ). replicate k c) count) (omega (arith, length-replicate n c)) fits
  where
    count : length (take (e - i) (drop i s)) ≡ n
    count = length-take-le (e - i) (drop i s) (omega (arith, length-drop i s)) ∙ omega arith

-- and two words after it
pub laid : (s ys : List ℕ) (n c i e last f : ℕ) → i + n ≡ e → e ≤ length s → ys ≡ replicate (length (take (e - i) (drop i s))) c →
    set (set (put_mid i (e - i) s ys) e last) (e + 1) f ≡ sets s i (replicate n c ++ (last ∷ f ∷ []))
laid s ys n c i e last f ends fits run =
    let next : suc e ≡ e + 1 = omega arith in
    ap (λ (t : List ℕ). set (set t e last) (e + 1) f) (filled-with s ys n c i e ends fits run)
    ∙ sym (sets-append (replicate n c) (last ∷ f ∷ []) s i e (omega (arith, length-replicate n c)) ∙ rw next)
