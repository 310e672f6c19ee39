-- Numbers as a line writes them. Decimal ones are below 2 ^ 32; a HEX word has 1 to 8 digits of either case.
-- A reader must believe: numbers are read so. Assumes nothing.
use Rattle.std.specs.Prelude.{ℕ, ◌+◌, ◌-◌, ◌*◌, ◌≡◌, refl, Bool, true, false, cond, List, [], ◌∷◌, eqb, leb, ltb, length, Result, Ok, Err}
use Rattle.line_tool.specs.Text.{bytes}
use Rattle.line_tool.specs.declared.fault.Fault.{Fault}
use Rattle.line_tool.specs.declared.fault.Fault.TheVariants.{Missing, NotDecimal, TooLarge, NotHex, TooLong}
use Rattle.line_tool.specs.declared.number.Base.{Base}
use Rattle.line_tool.specs.declared.number.Base.TheVariants.{Decimal, Hex}

-- The digit that a byte is: 0 to 9, A to F, a to f; 16 where it is none.
unfoldable pub digit_of : ℕ → ℕ
digit_of b =
    cond (ltb b 48) 16
    (cond (leb b 57) (b - 48)
    (cond (ltb b 65) 16
    (cond (leb b 70) (b - 55)
    (cond (ltb b 97) 16
    (cond (leb b 102) (b - 87)
    16)))))

-- All bytes are digits of the base.
abbrev pub is_numeral : ℕ → List ℕ → Bool
is_numeral base [] = true
is_numeral base (b ∷ bs) = cond (leb base (digit_of b)) false (is_numeral base bs)

-- The number that digits make after those of n.
abbrev pub number_from : ℕ → ℕ → List ℕ → ℕ
number_from base n [] = n
number_from base n (b ∷ bs) = number_from base (n * base + digit_of b) bs

abbrev pub number_of : ℕ → List ℕ → ℕ
number_of base word = number_from base 0 word

unfoldable pub decimal_number : List ℕ → Result ℕ Fault
decimal_number word =
    cond (eqb (length word) 0) (Err Missing)
    (cond (is_numeral 10 word)
    (cond (ltb 0xffff_ffff (number_of 10 word)) (Err TooLarge) (Ok (number_of 10 word)))
    (Err NotDecimal))

unfoldable pub hex_number : List ℕ → Result ℕ Fault
hex_number word =
    cond (eqb (length word) 0) (Err Missing)
    (cond (is_numeral 16 word)
    (cond (ltb 8 (length word)) (Err TooLong) (Ok (number_of 16 word)))
    (Err NotHex))

unfoldable pub number_in : Base → List ℕ → Result ℕ Fault
number_in Decimal word = decimal_number word
number_in Hex word = hex_number word

upper-case : digit_of 70 ≡ 15
unfolding digit_of
upper-case = refl

no_digit : digit_of 103 ≡ 16
unfolding digit_of
no_digit = refl

octal : is_numeral 8 (bytes "777") ≡ true
unfolding digit_of
octal = refl

not-octal : is_numeral 8 (bytes "78") ≡ false
unfolding digit_of
not-octal = refl

further-digits : number_from 10 4 (bytes "07") ≡ 407
unfolding digit_of
further-digits = refl

sixteens : number_of 16 (bytes "1f") ≡ 31
unfolding digit_of
sixteens = refl

greatest : decimal_number (bytes "4294967295") ≡ Ok 0xffff_ffff
unfolding decimal_number digit_of
greatest = refl

too_large : decimal_number (bytes "4294967296") ≡ Err TooLarge
unfolding decimal_number digit_of
too_large = refl

not-decimal : decimal_number (bytes "12a") ≡ Err NotDecimal
unfolding decimal_number digit_of
not-decimal = refl

either-case : hex_number (bytes "0200aBcD") ≡ Ok 0x0200_abcd
unfolding hex_number digit_of
either-case = refl

nine-digits : hex_number (bytes "000000001") ≡ Err TooLong
unfolding hex_number digit_of
nine-digits = refl

no-digits : hex_number [] ≡ Err Missing
unfolding hex_number
no-digits = refl

by-base : number_in Hex (bytes "10") ≡ Ok 16
unfolding number_in hex_number digit_of
by-base = refl
