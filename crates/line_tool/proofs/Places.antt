-- Places in a line: after the bytes of a kind, found byte by byte, and the bytes of a token.
use Prim.Native.Nat.{ℕ, zero, suc, ◌+◌, ◌-◌, ◌≤◌, ◌<◌, min, max, zero-le, suc-le-suc}
use native.Mathlib.Nat.{add-zero, add-suc, suc-add, zero-min, suc-min-suc}
use native.Mathlib.Numerals.{add-one}
use native.Mathlib.Omega.{arith}
use mathlib.Core.Path.{◌≡◌, sym, ap, ◌∙◌}
use mathlib.Core.Bool.{Bool, true, false, cond}
use mathlib.Core.List.{List, [], ◌∷◌}
use lib.ListN.{length, get_or, take, drop, length-drop, drop_of_length-le}
use lib.Seq.{drop-cons, take-nil}
use Rattle.line_tool.specs.Tokens.{leading, after_all, text_of}
use Rattle.line_tool.specs.declared.tokens.Token.{Token}

module _ (is : ℕ → Bool) (s : List ℕ) (i : ℕ) where
  pub after_none : length s ≤ i → after_all is s i ≡ i
  unfolding after_all
  after_none h = rw (drop_of_length-le s h) (add-zero i)

  pub after_stop : i < length s → is (get_or s i 0) ≡ false → after_all is s i ≡ i
  unfolding after_all
  after_stop h e = rw (drop-cons s i 0 h, e) (add-zero i)

  pub after-step : i < length s → is (get_or s i 0) ≡ true → after_all is s i ≡ after_all is s (i + 1)
  unfolding after_all
  after-step h e = rw (add-one i, drop-cons s i 0 h, e) (add-suc i _ ∙ sym (suc-add i _))

leading-more : (t : Bool) {n m : ℕ} → n ≤ m → cond t (suc n) 0 ≤ suc m
leading-more true h = suc-le-suc h
leading-more false h = zero-le

leading_le : (is : ℕ → Bool) (s : List ℕ) → leading is s ≤ length s
leading_le is [] = zero-le
leading_le is (b ∷ s) = leading-more (is b) (leading_le is s)

pub after-bounds : (is : ℕ → Bool) (s : List ℕ) (i : ℕ) → (i ≤ after_all is s i) × (after_all is s i ≤ max i (length s))
unfolding after_all
after-bounds is s i =
    let h : leading is (drop i s) ≤ length s - i = rw length-drop at (leading_le is (drop i s)) in
    (omega arith, omega arith)

take-cut : (n : ℕ) (l : List ℕ) → take (min n (length l)) l ≡ take n l
take-cut n [] = take-nil (min n 0) ∙ sym (take-nil n)
take-cut zero (x ∷ l) = rw (zero-min (suc (length l)))
take-cut (suc n) (x ∷ l) = rw (suc-min-suc n (length l)) (ap (λ (r : List ℕ). x ∷ r) (take-cut n l))

-- the bytes of a token that ends past the line
pub text-cut : (s : List ℕ) (t : Token) (n : ℕ) → n ≡ min t.end (length s) - t.start → take n (drop t.start s) ≡ text_of s t
unfolding text_of
text-cut s t n e =
    let h : n ≡ min (t.end - t.start) (length (drop t.start s)) = simp length-drop (omega arith) in
    rw h (take-cut (t.end - t.start) (drop t.start s))
