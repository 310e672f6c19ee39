-- What a pen holds after a text is put, texts that are never longer than the room made for them, and numbers put one by one.
use Prim.Native.Nat.{ℕ, zero, suc, ◌+◌, ◌-◌, ◌*◌, ◌/◌, ◌%◌, ◌≤◌, ◌<◌, min, max}
use Prim.Native.String.{String}
use native.Mathlib.Omega.{arith}
use mathlib.Core.Path.{◌≡◌, refl, sym, ap, ◌∙◌}
use mathlib.Core.Bool.{Bool, true, false, cond, ◌||◌}
use mathlib.Core.List.{List, [], ◌∷◌, ◌++◌, append-nil}
use Rattle.std.proofs.Math.Bool.{or_assoc, or-false}
use lib.Dec.{ltb, leb, eqb}
use lib.ListN.{length, take, drop, length-append}
use lib.Seq.{sets, sets-eq, take-append_seam}
use Rattle.std.proofs.Common.{length-take, lit≤}
use borrow.Author.Tests.{lt-ltb, le-ltb, lt-leb, le-leb, leb-true}
use Rattle.descriptor.proofs.Truth.{by_le}
use Rattle.line_tool.specs.Text.{bytes}
use Rattle.line_tool.specs.Writing.{Wrote, wrote, writes, digits, decimal, hex}
use Rattle.line_tool.specs.Faults.{fault_text, shown}
use Rattle.line_tool.specs.Explain.{lookup, statuses, traps, status_words, trap_words, status_text, trap_text, last_text}
use Rattle.line_tool.specs.Pens.{in_hand, is_short, room_made, put_within, put_text, number_room, number_text, put_number, number_short, put_numbers, numbers_short, Stays}
use Rattle.line_tool.specs.declared.pen.Pen.{Pen}
use Rattle.line_tool.specs.declared.number.Base.{Base}
use Rattle.line_tool.specs.declared.fault.Fault.{Fault}
use Rattle.line_tool.specs.declared.fault.Fault.TheVariants as F
use Rattle.line_tool.specs.declared.explain.Last.{Last}
use Rattle.line_tool.specs.declared.explain.Last.TheVariants as L

-- ---- room

module _ (at : ℕ) (out : List ℕ) (n : ℕ) (whole : length out ≡ 4096) where
  free : 4096 - length (take at out) ≡ 4096 - at
  free = simp length-take (omega arith)

  pub hand-short : 4096 - at < n → is_short (take at out) n ≡ true
  unfolding is_short
  hand-short h = rw free (lt-ltb _ _ h)

  pub hand-wide : n ≤ 4096 - at → is_short (take at out) n ≡ false
  unfolding is_short
  hand-wide h = rw free (le-ltb _ _ h)

room-there : (hand : List ℕ) (n : ℕ) → n ≤ 4096 → n ≤ 4096 - length (room_made hand n)
unfolding room_made is_short
room-there hand n h =
    by_le n (4096 - length hand)
    (λ wide. rw (le-ltb _ _ wide) wide)
    (λ short. rw (lt-ltb _ _ short) h)

-- ---- a text is put

put-hand : (at : ℕ) (out text : List ℕ) → length out ≡ 4096 → length text ≤ 4096 - at → take (max at (min (at + length text) (length out))) (sets out at text) ≡ take at out ++ text
put-hand at out text whole room =
    by_le (at + length text) 4096
    (λ (inside : at + length text ≤ 4096).
    let e : max at (min (at + length text) (length out)) ≡ length (take at out ++ text) = rw (length-append (take at out) text, length-take at out) (omega arith) in
    rw (e, sets-eq text out at (omega arith)) (take-append_seam (take at out ++ text) (drop (at + length text) out)))
    (λ (past : 4096 < at + length text). none text (omega arith))
  where
    none : (text : List ℕ) → length text ≡ 0 → take (max at (min (at + length text) (length out))) (sets out at text) ≡ take at out ++ text
    none [] e = let p : max at (min (at + 0) (length out)) ≡ at = omega arith in rw p (sym (append-nil (take at out)))
    none (b ∷ text) e = absurd (omega arith)

pub put-room : (n : ℕ) (hand : List ℕ) (at : ℕ) (out text : List ℕ) {to : ℕ} {new : List ℕ} → take at out ≡ room_made hand n → length out ≡ 4096 → wrote to new ≡ writes out at text → n ≤ 4096 → length text ≤ n → take to new ≡ put_within n hand text
unfolding writes put_within
put-room n hand at out text {to} {new} made whole e most h =
    let p : to ≡ max at (min (at + length text) (length out)) = ap (λ (w : Wrote). w.place) e in
    let q : new ≡ sets out at text = ap (λ (w : Wrote). w.buffer) e in
    let there : n ≤ 4096 - length (take at out) = rw made (room-there hand n most) in
    let room : length text ≤ 4096 - at = omega (arith, length-take at out) in
    rw (p, q) (put-hand at out text whole room ∙ ap (λ (l : List ℕ). l ++ text) made)

-- ---- texts and the room that is made for them

two : (t : Bool) {A : Type 0} {a b : A} (P : A → Type 0) → P a → P b → P (cond t a b)
two true P p q = p
two false P p q = q

digits-length : (places n : ℕ) → length (digits places n) ≤ places
digits-length zero n = lit≤ tt
digits-length (suc places) n =
    two (ltb n 10) (λ (l : List ℕ). length l ≤ suc places) (omega arith)
    (rw (length-append (digits places (n / 10)) ((48 + n % 10) ∷ [])) (omega (arith, digits-length places (n / 10))))

pub decimal-length : (n : ℕ) → length (decimal n) ≤ 10
unfolding decimal
decimal-length n = digits-length 10 n

pub hex-length : (w : ℕ) → length (hex w) ≤ 8
unfolding hex
hex-length w = lit≤ tt

pub fault-length : (fault : Fault) → length (bytes (fault_text fault)) ≤ 64
unfolding fault_text
fault-length F.NoCommand = lit≤ tt
fault-length F.Missing = lit≤ tt
fault-length F.Extra = lit≤ tt
fault-length F.NotDecimal = lit≤ tt
fault-length F.TooLarge = lit≤ tt
fault-length F.NotHex = lit≤ tt
fault-length F.TooLong = lit≤ tt
fault-length F.Odd = lit≤ tt
fault-length F.TooManyBytes = lit≤ tt
fault-length F.LongFile = lit≤ tt
fault-length F.LongTable = lit≤ tt
fault-length F.TooManyWords = lit≤ tt
fault-length F.PastEnd = lit≤ tt
fault-length F.NoBar = lit≤ tt
fault-length F.LongLine = lit≤ tt

pub shown-length : (token : List ℕ) → length (shown token) ≤ 42
unfolding shown
shown-length token =
    by_le (length token) 40
    (λ whole. rw (le-leb _ _ whole) (omega arith))
    (λ long. rw (lt-leb _ _ long) (simp (length-append, length-take) (omega arith)))

-- no text of a table is longer than so many bytes
abbrev within : ℕ → List (ℕ × String) → Bool
within most [] = true
within most (entry ∷ table) = cond (leb (length (bytes entry.1)) most) (within most table) false

lookup-within : (most n : ℕ) (table : List (ℕ × String)) (none : String) → within most table ≡ true → length (bytes none) ≤ most → length (bytes (lookup n table none)) ≤ most
lookup-within most n [] none w h = h
lookup-within most n (entry ∷ table) none w h =
    first (leb (length (bytes entry.1)) most) refl (λ rest. lookup-within most n table none rest h)
  where
    first : (t : Bool) → leb (length (bytes entry.1)) most ≡ t → (within most table ≡ true → length (bytes (lookup n table none)) ≤ most) → length (bytes (lookup n (entry ∷ table) none)) ≤ most
    first true e rest = two (eqb n entry.0) (λ (text : String). length (bytes text) ≤ most) (leb-true _ _ e) (rest (rw e at w))
    first false e rest = let no = rw e at w in absurd (cc)

status-length : (n : ℕ) → length (bytes (status_words n)) ≤ 128
unfolding status_words
status-length n = lookup-within 128 n statuses "no such status" refl (lit≤ tt)

trap-length : (word : ℕ) → length (bytes (trap_words word)) ≤ 128
unfolding trap_words
trap-length word = lookup-within 128 word traps "no such trap" refl (lit≤ tt)

pub last-length : (last : Last) → length (last_text last) ≤ 256
unfolding last_text status_text trap_text
last-length L.Nothing = lit≤ tt
last-length (L.Status n) = simp length-append (omega (arith, decimal-length n, status-length n))
last-length (L.Trap trap) =
    simp length-append (omega (arith, decimal-length trap.class, decimal-length trap.number, trap-length (trap.class * 0x100 + trap.number)))

-- ---- one call after another

pub stays-on : {a b c : Pen} {o p : Bool} → Stays a b o → Stays b c p → Stays a c (o || p)
stays-on {a} {b} {c} {o} {p} s t = record { stream = t.stream ∙ s.stream; failed = so o p a.failed b.failed c.failed s.failed t.failed }
  where
    so : (o p x y z : Bool) → y ≡ cond o (x || y) x → z ≡ cond p (y || z) y → z ≡ cond (o || p) (x || z) x
    so false p x y z e f = rw e at f
    so true false x y z e f = cc
    so true true true y z e f = rw e at f
    so true true false y z e f = refl

-- a text that is longer than all that can be held, and one that isn't
long-room : (hand : List ℕ) (n : ℕ) → 4096 < n → is_short hand n ≡ true
unfolding is_short
long-room hand n h = lt-ltb _ _ (omega arith)

pub put-long : (hand text : List ℕ) {made left : List ℕ} → 4096 < length text → made ≡ room_made hand (length text) → left ≡ made → left ≡ put_text hand text
unfolding put_text room_made
put-long hand text long e f = simp (lt-ltb _ _ long) (f ∙ rw (long-room hand (length text) long) at e)

pub long-short : (hand : List ℕ) (n : ℕ) {a b c : Pen} → 4096 < n → Stays a b (is_short hand n) → Stays b c true → Stays a c (is_short hand n)
long-short hand n h s t = let short = long-room hand n h in rw short (stays-on (rw short at s) t)

pub put-short : (hand text : List ℕ) {left : List ℕ} → length text ≤ 4096 → left ≡ put_within (length text) hand text → left ≡ put_text hand text
unfolding put_text
put-short hand text h e = simp (le-ltb _ _ h) e

-- so much of a list of numbers is put, with or without a write on the way, and the rest still to come
pub record Going (base : Base) (first : Pen) (numbers : List ℕ) (pen : Pen) (left : List ℕ) : Type 0 where
  pub out : Bool
  pub hand : put_numbers base (in_hand pen) left ≡ put_numbers base (in_hand first) numbers
  pub short : (out || numbers_short base (in_hand pen) left) ≡ numbers_short base (in_hand first) numbers
  pub stays : Stays first pen out

pub going : {base : Base} {first : Pen} {numbers : List ℕ} → Going base first numbers first numbers
going = record { out = false; hand = refl; short = refl; stays = record { stream = refl; failed = refl } }

pub going-on : {base : Base} {first pen spaced on : Pen} {numbers left rest : List ℕ} {n : ℕ} → Going base first numbers pen left → left ≡ n ∷ rest → in_hand spaced ≡ put_text (in_hand pen) (bytes " ") → Stays pen spaced (is_short (in_hand pen) 1) → in_hand on ≡ put_within (number_room base) (in_hand spaced) (number_text base n) → Stays spaced on (is_short (in_hand spaced) (number_room base)) → Going base first numbers on rest
unfolding put_numbers numbers_short put_number number_short
going-on {base} {first} {pen} {spaced} {on} {numbers} {left} {rest} {n} g e p s q t = record {
  out = g.out || (is_short (in_hand pen) 1 || is_short (in_hand spaced) (number_room base));
  hand = rw (q, p) (rw e at g.hand);
  short = simp or_assoc (rw (q, p) (simp or_assoc at (rw e at g.short)));
  stays = stays-on g.stays (stays-on s t);
}

pub gone : {base : Base} {first pen : Pen} {numbers left : List ℕ} → Going base first numbers pen left → left ≡ [] → (in_hand pen ≡ put_numbers base (in_hand first) numbers) × Stays first pen (numbers_short base (in_hand first) numbers)
unfolding put_numbers numbers_short
gone g e = (rw e at g.hand, let same = sym (or-false g.out) ∙ (rw e at g.short) in rw (← same) g.stays)
