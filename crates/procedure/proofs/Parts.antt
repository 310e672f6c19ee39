-- The part of a list from a place on, cut where the list ends.
use mathlib.Core.Path.{◌≡◌, sym, ◌∙◌}
use mathlib.Core.List.{List}
use Prim.Native.Nat.{ℕ, ◌+◌, ◌-◌, ◌≤◌}
use native.Mathlib.Nat.{add-sub_cancel_left}
use native.Mathlib.Omega.{arith}
use lib.ListN.{length, take, drop, length-drop, drop_of_length-le}
use lib.Seq.{take_all, take-nil}

pub part-whole : (p : List ℕ) (a n : ℕ) → take (a + n - a) (drop a p) ≡ take n (drop a p)
part-whole p a n = rw add-sub_cancel_left

pub part-rest : (p : List ℕ) (a n : ℕ) → length p ≤ a + n → take (length p - a) (drop a p) ≡ take n (drop a p)
part-rest p a n h =
    take_all (length p - a) (drop a p) (simp length-drop (omega arith))
    ∙ sym (take_all n (drop a p) (simp length-drop (omega arith)))

pub part_none : (p : List ℕ) (a n m : ℕ) → length p ≤ a → take m (drop (length p) p) ≡ take n (drop a p)
part_none p a n m h =
    rw (drop_of_length-le p {i = length p} (omega arith), drop_of_length-le p {i = a} h) (take-nil m ∙ sym (take-nil n))
