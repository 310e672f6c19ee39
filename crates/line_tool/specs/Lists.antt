-- Numbers that follow one another in a line. A token takes a byte at least, so that a line has no more of them than bytes.
-- A reader must believe: lists are read so. Assumes nothing.
use Rattle.std.specs.Prelude.{ℕ, zero, suc, ◌+◌, ◌≡◌, refl, cond, List, [], ◌∷◌, eqb, leb, length, set, Result, Ok, Err}
use Rattle.line_tool.specs.Text.{bytes}
use Rattle.line_tool.specs.Tokens.{token_at, text_of, after_all}
use Rattle.line_tool.specs.Numbers.{number_in, decimal_number, hex_number, digit_of}
use Rattle.line_tool.specs.declared.tokens.Token.{Token}
use Rattle.line_tool.specs.declared.fault.Fault.{Fault}
use Rattle.line_tool.specs.declared.fault.Fault.TheVariants.{PastEnd, NotHex}
use Rattle.line_tool.specs.declared.number.Base.{Base}
use Rattle.line_tool.specs.declared.number.Base.TheVariants.{Decimal, Hex}
use Rattle.line_tool.specs.declared.fault.Misread.{Misread}
use Rattle.line_tool.specs.declared.list.Listed.{Listed}

-- So many numbers up to a place, or what is wrong with which token.
abbrev pub Answer : Type 0
Answer = Result Listed Misread

abbrev pub listed : ℕ → ℕ → Answer
listed count next = Ok (record { count = count; next = next })

abbrev pub misread : Fault → Token → Answer
misread fault token = Err (record { fault = fault; token = token })

-- The answer, and the buffer with the numbers.
pub record Listing : Type 0 where
  pub answer : Answer
  pub numbers : List ℕ

abbrev pub listing : Answer → List ℕ → Listing
listing answer out = record { answer = answer; numbers = out }

unfoldable pub with_number : Result ℕ Fault → (ℕ → Listing) → (Fault → Listing) → Listing
with_number (Ok v) value wrong = value v
with_number (Err fault) value wrong = wrong fault

-- What a token gives at a place: the end of the list where it is empty, a fault, or a number, with which the rest goes on.
unfoldable pub turn : Base → List ℕ → ℕ → ℕ → List ℕ → Token → (ℕ → Listing) → Listing
turn base line at n out token rest =
    cond (eqb token.start token.end) (listing (listed n at) out)
    (with_number (number_in base (text_of line token))
    (λ value. cond (leb (length out) n) (listing (misread PastEnd token) out) (rest value))
    (λ fault. listing (misread fault token) out))

-- The numbers from a place on, at most so many, into a buffer that has n of them already.
unfoldable pub numbers_at : Base → List ℕ → ℕ → ℕ → ℕ → List ℕ → Listing
numbers_at base line zero at n out = listing (listed n at) out
numbers_at base line (suc left) at n out =
    let token = token_at line at in
    turn base line at n out token (λ value. numbers_at base line left token.end (n + 1) (set out n value))

value-goes-on : with_number (Ok 5) (λ v. listing (listed v 0) []) (λ fault. listing (listed 0 0) []) ≡ listing (listed 5 0) []
unfolding with_number
value-goes-on = refl

shape : numbers_at Decimal (bytes "load 8 2 3 4 | 1") 2 8 0 (0 ∷ 0 ∷ 0 ∷ []) ≡ listing (listed 2 12) (3 ∷ 4 ∷ 0 ∷ [])
unfolding numbers_at turn with_number token_at text_of after_all number_in decimal_number digit_of
shape = refl

line-ends : numbers_at Decimal (bytes "7 ") 3 0 0 (0 ∷ []) ≡ listing (listed 1 1) (7 ∷ [])
unfolding numbers_at turn with_number token_at text_of after_all number_in decimal_number digit_of
line-ends = refl

bad : numbers_at Hex (bytes "1f g") 4 0 0 (0 ∷ 0 ∷ []) ≡ listing (misread NotHex (record { start = 3; end = 4 })) (31 ∷ 0 ∷ [])
unfolding numbers_at turn with_number token_at text_of after_all number_in hex_number digit_of
bad = refl

no_room : numbers_at Hex (bytes "1 2") 3 0 0 (0 ∷ []) ≡ listing (misread PastEnd (record { start = 2; end = 3 })) (1 ∷ [])
unfolding numbers_at turn with_number token_at text_of after_all number_in hex_number digit_of
no_room = refl
