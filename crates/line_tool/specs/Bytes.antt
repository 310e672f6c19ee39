-- The bytes of a procedure segment, of a file of imports or of a table of operators as a line writes them: two HEX digits a byte, a
-- dash for none.
-- A reader must believe: bytes are read so. Assumes nothing.
use Rattle.std.specs.Prelude.{ℕ, ◌+◌, ◌*◌, ◌/◌, ◌%◌, ◌≡◌, refl, Bool, true, false, cond, List, [], ◌∷◌, eqb, ltb, length, get_or, Result, Ok, Err}
use Rattle.line_tool.specs.Text.{bytes}
use Rattle.line_tool.specs.Numbers.{digit_of, is_numeral}
use Rattle.line_tool.specs.declared.fault.Fault.{Fault}
use Rattle.line_tool.specs.declared.fault.Fault.TheVariants.{Missing, NotHex, Odd, TooManyBytes, LongFile}

abbrev pub is_dash : List ℕ → Bool
is_dash word = cond (eqb (length word) 1) (eqb (get_or word 0 0) 45) false

-- How many bytes a word writes, of which there is room for so many; the fault where it writes more.
unfoldable pub byte_count : List ℕ → ℕ → Fault → Result ℕ Fault
byte_count word room more =
    cond (eqb (length word) 0) (Err Missing)
    (cond (is_dash word) (Ok 0)
    (cond (is_numeral 16 word)
    (cond (eqb (length word % 2) 1) (Err Odd)
    (cond (ltb room (length word / 2)) (Err more) (Ok (length word / 2))))
    (Err NotHex)))

-- The byte of two digits; a byte that is no digit counts as 0.
abbrev pub pair : ℕ → ℕ → ℕ
pair high low = digit_of high % 16 * 16 + digit_of low % 16

-- The bytes that a word writes, two digits each.
abbrev pub pairs : List ℕ → List ℕ
pairs [] = []
pairs (high ∷ []) = []
pairs (high ∷ low ∷ word) = pair high low ∷ pairs word

dash : is_dash (bytes "-") ≡ true
dash = refl

two-dashes : is_dash (bytes "--") ≡ false
two-dashes = refl

one_byte : pair 50 101 ≡ 0x2e
unfolding digit_of
one_byte = refl

header : pairs (bytes "00012e0F") ≡ 0 ∷ 1 ∷ 46 ∷ 15 ∷ []
unfolding digit_of
header = refl

none : byte_count (bytes "-") 100000 LongFile ≡ Ok 0
unfolding byte_count digit_of
none = refl

some : byte_count (bytes "00012e0F") 4 TooManyBytes ≡ Ok 4
unfolding byte_count digit_of
some = refl

odd : byte_count (bytes "000") 40000 TooManyBytes ≡ Err Odd
unfolding byte_count digit_of
odd = refl

too_many : byte_count (bytes "0001") 1 TooManyBytes ≡ Err TooManyBytes
unfolding byte_count digit_of
too_many = refl
