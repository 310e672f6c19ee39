-- Runs of words written: a loop that copies word by word, and a part of a segment that a copy has filled.
use Prim.Native.Nat.{min, ℕ, zero, suc, ◌+◌, ◌-◌, ◌≤◌, ◌<◌}
use native.Mathlib.Omega.{arith}
use mathlib.Core.Path.{◌≡◌, refl, sym, ◌∙◌}
use mathlib.Core.List.{List, [], ◌∷◌, ◌++◌, append_assoc}
use mathlib.Core.Logic.{◌≢◌, ◌⊎◌, inl, inr, ⊎_elim}
use lib.ListN.{length, get_or, take, drop, set, length-set, length-drop, length-append}
use lib.Seq.{sets, sets-eq, set_out, get_or-set_other, length-take-le, take-length}
use borrow.Rule.Slice.PartMut.{put_mid, Post-is}
use Rattle.std.proofs.Math.Seq.{take-append_seam, drop-append_seam, drop-append-add}
use Rattle.std.proofs.lemmas.List.{take-append-le, drop-append-le, drop_all, set_comm, set-append_left, append-nil}
use Rattle.descriptor.proofs.Truth.{by_le}
use Rattle.segment.specs.Blocks.{part}
use Rattle.segment.proofs.Parts.{part-take}
use Rattle.segment.proofs.Runs.{part_length}

-- words outside a run are left as they were, and a run may be written in two parts
pub sets-other : (vs s : List ℕ) (i j : ℕ) → (j < i) ⊎ (i + length vs ≤ j) → get_or (sets s i vs) j 0 ≡ get_or s j 0
sets-other [] s i j h = refl
sets-other (v ∷ vs) s i j h =
    let n : j ≢ i = ⊎_elim (λ q. omega (arith, q)) (λ q. omega (arith, q)) h in
    sets-other vs (set s i v) (suc i) j (⊎_elim (λ q. inl (omega (arith, q))) (λ q. inr (omega (arith, q))) h) ∙ rw get_or-set_other

pub sets-append : (us vs s : List ℕ) (i e : ℕ) → i + length us ≡ e → sets s i (us ++ vs) ≡ sets (sets s i us) e vs
sets-append [] vs s i e ends = let same : i ≡ e = omega arith in rw same
sets-append (u ∷ us) vs s i e ends = sets-append us vs (set s i u) (suc i) e (omega arith)

-- one word more of a run that is read from `from` up
pub run_on : (i : ℕ) (s o : List ℕ) (from to : ℕ) → set (sets o to (part s from i)) (to + i) (get_or s (from + i) 0) ≡ sets o to (part s from (i + 1))
run_on zero s o from to =
    let f : from + 0 ≡ from = omega arith in
    let t : to + 0 ≡ to = omega arith in
    rw (f, t)
run_on (suc i) s o from to =
    let f : from + suc i ≡ from + 1 + i = omega arith in
    let t : to + suc i ≡ suc to + i = omega arith in
    let n : suc i + 1 ≡ suc (i + 1) = omega arith in
    rw (f, t, n) (run_on i s (set o to (get_or s from 0)) (from + 1) (suc to))

-- the same of a list that is written from its first word on
pub list_on : (i : ℕ) (words o : List ℕ) (to : ℕ) → set (sets o to (part words 0 i)) (to + i) (get_or words i 0) ≡ sets o to (part words 0 (i + 1))
list_on i words o to = let z : 0 + i ≡ i = omega arith in rw z at (run_on i words o 0 to)

pub list_all : (i : ℕ) (words o : List ℕ) (to : ℕ) → i ≡ length words → sets o to (part words 0 i) ≡ sets o to words
list_all i words o to all = rw (all, part-take (length words) words 0 (omega arith), take-length words)

-- a run as long as the list takes the place of all of it
pub sets-whole : (vs s : List ℕ) → length vs ≡ length s → sets s 0 vs ≡ vs
sets-whole vs s same =
    let none : drop (0 + length vs) s ≡ [] = drop_all (0 + length vs) s (omega (arith, same)) in
    sets-eq vs s 0 (omega (arith, same)) ∙ rw none (append-nil vs)

-- a run that starts past the end, or goes past it, writes only what lies before it
pub sets-out : (vs s : List ℕ) (i : ℕ) → length s ≤ i → sets s i vs ≡ s
sets-out [] s i past = refl
sets-out (v ∷ vs) s i past = rw (set_out s i v past) (sets-out vs s (suc i) (omega arith))

pub sets-past : (n : ℕ) (vs s : List ℕ) (i : ℕ) → length s ≤ i + n → sets s i (take n vs) ≡ sets s i vs
sets-past zero vs s i past = sym (sets-out vs s i (omega arith))
sets-past (suc n) [] s i past = refl
sets-past (suc n) (v ∷ vs) s i past = sets-past n vs (set s i v) (suc i) (rw (length-set s i v) (omega arith))

-- the part from i to e filled with the words `vs`
pub filled : (s ys vs : List ℕ) (i e : ℕ) → ys ≡ vs → i + length vs ≡ e → e ≤ length s → put_mid i (e - i) s ys ≡ sets s i vs
filled s ys vs i e same ends fits =
    rw (same, Post-is i e s (omega arith))
    (sym (sets-eq vs s i (omega arith) ∙ append_assoc (take i s) vs (drop (i + length vs) s) ∙ rw ends))

-- the part from i up filled with the first n of the words `vs`: all of them, or as many as there is room for
pub filled-first : (s ys vs : List ℕ) (i n : ℕ) → ys ≡ take n vs → n ≡ min (length vs) (length s - i) → i < length s → put_mid i (i + n - i) s ys ≡ sets s i vs
filled-first s ys vs i n same first inside =
    filled s ys (take n vs) i (i + n) same (omega (arith, length-take-le n vs (omega arith))) (omega arith)
    ∙ by_le (length vs) (length s - i)
    (λ fits. let all : n ≡ length vs = omega arith in rw (all, take-length vs))
    (λ past. sets-past n vs s i (omega arith))

-- the same within one segment, upwards into a run that starts lower
pub moved_on : (s now : List ℕ) (from to i : ℕ) → now ≡ sets s to (part s from i) → to ≤ from → set now (to + i) (get_or now (from + i) 0) ≡ sets s to (part s from (i + 1))
moved_on s now from to i so_far lower =
    rw (so_far, sets-other (part s from i) s to (from + i) (inr (omega (arith, part_length s from i))))
    (run_on i s s from to)

-- and downwards into one that does not
sets-under : (vs s : List ℕ) (j i v : ℕ) → j < i → set (sets s i vs) j v ≡ sets (set s j v) i vs
sets-under [] s j i v under = refl
sets-under (w ∷ vs) s j i v under =
    let apart : i ≢ j = λ e. omega (arith, e) in
    sets-under vs (set s i w) j (suc i) v (omega arith) ∙ rw (set_comm s i j w v apart)

pub moved_down : (s now : List ℕ) (from to i n : ℕ) → now ≡ sets s (to + i) (part s (from + i) (n - i)) → from ≤ to → 0 < i → i ≤ n
    → set now (to + (i - 1)) (get_or now (from + (i - 1)) 0) ≡ sets s (to + (i - 1)) (part s (from + (i - 1)) (n - (i - 1)))
moved_down s now from to zero n so_far lower some more = absurd (omega arith)
moved_down s now from to (suc i) n so_far lower some more =
    let p : suc i - 1 ≡ i = omega arith in
    let m : n - i ≡ suc (n - suc i) = omega arith in
    let f : from + suc i ≡ from + i + 1 = omega arith in
    let t : to + suc i ≡ suc (to + i) = omega arith in
    rw (so_far, p, m, f, t, sets-other (part s (from + i + 1) (n - suc i)) s (suc (to + i)) (from + i) (inl (omega arith)))
    (sets-under (part s (from + i + 1) (n - suc i)) s (to + i) (suc (to + i)) (get_or s (from + i) 0) (omega arith))

-- a run of the part below a cut is copied behind it
pub copied_behind : (s low high ys : List ℕ) (from to n : ℕ) → s ≡ low ++ high → length low ≡ to → ys ≡ take n (drop from low) → from + n ≤ to → to + n ≤ length s
    → low ++ (ys ++ drop n high) ≡ sets s to (part s from n)
copied_behind s low high ys from to n cut at same inside room =
    let l : length s ≡ length low + length high = rw cut (length-append low high) in
    let k : length (take n (drop from low)) ≡ n = length-take-le n (drop from low) (omega (arith, length-drop from low)) in
    let v : part s from n ≡ take n (drop from low) =
    part-take n s from (omega arith) ∙ rw (cut, drop-append-le from low high (omega arith)) (take-append-le n (drop from low) high (omega (arith, length-drop from low))) in
    rw (v, same)
    (sym (sets-eq (take n (drop from low)) s to (omega (arith, k))
    ∙ append_assoc (take to s) (take n (drop from low)) (drop (to + length (take n (drop from low))) s)
    ∙ rw (k, cut, ← at, take-append_seam low high, drop-append-add low high n)))

-- and a run of the part behind it is copied below it
sets-append_left : (vs low high : List ℕ) (i : ℕ) → i + length vs ≤ length low → sets (low ++ high) i vs ≡ sets low i vs ++ high
sets-append_left [] low high i fits = refl
sets-append_left (v ∷ vs) low high i fits =
    rw (set-append_left low high i v (omega arith)) (sets-append_left vs (set low i v) high (suc i) (rw (length-set low i v) (omega arith)))

pub copied_below : (s low high ys : List ℕ) (from to n : ℕ) → s ≡ low ++ high → length low ≡ from → ys ≡ take n high → to + n ≤ from → from + n ≤ length s
    → put_mid to (to + n - to) low ys ++ high ≡ sets s to (part s from n)
copied_below s low high ys from to n cut at same inside room =
    let l : length s ≡ length low + length high = rw cut (length-append low high) in
    let k : length (take n high) ≡ n = length-take-le n high (omega arith) in
    let v : part s from n ≡ take n high = part-take n s from (omega arith) ∙ rw (cut, ← at, drop-append_seam low high) refl in
    rw (filled low ys (take n high) to (to + n) same (omega (arith, k)) (omega arith), v, cut)
    (sym (sets-append_left (take n high) low high to (omega (arith, k))))
