-- What a pen holds after each call: answers that are still to be written to its stream, 4,096 bytes at most. Where a part may have
-- no room among them, they are written out first; none is ever cut. What a stream takes no contract can say.
-- A reader must believe: answers are gathered so. Assumes nothing.
use Rattle.std.specs.Prelude.{ℕ, ◌-◌, ◌≡◌, refl, Bool, false, cond, ◌||◌, List, [], ◌∷◌, ◌++◌, ltb, length, take}
use Rattle.line_tool.specs.Text.{bytes}
use Rattle.line_tool.specs.Writing.{decimal, hex}
use Rattle.line_tool.specs.declared.number.Base.{Base}
use Rattle.line_tool.specs.declared.number.Base.TheVariants.{Decimal, Hex}
use Rattle.line_tool.specs.declared.pen.Pen.{Pen}

-- The bytes that a pen holds.
abbrev pub in_hand : Pen → List ℕ
in_hand pen = take pen.held pen.buffer

-- Fewer than so many bytes are free.
unfoldable pub is_short : List ℕ → ℕ → Bool
is_short hand n = ltb (4096 - length hand) n

-- All is written out where fewer than so many bytes are free.
unfoldable pub room_made : List ℕ → ℕ → List ℕ
room_made hand n = cond (is_short hand n) [] hand

-- A text that takes so many bytes at most.
unfoldable pub put_within : ℕ → List ℕ → List ℕ → List ℕ
put_within n hand text = room_made hand n ++ text

-- Any text: one that is longer than all that can be held is written out at once.
unfoldable pub put_text : List ℕ → List ℕ → List ℕ
put_text hand text = cond (ltb 4096 (length text)) [] (put_within (length text) hand text)

-- The room that is made for a number, and its text.
unfoldable pub number_room : Base → ℕ
number_room Decimal = 10
number_room Hex = 8

unfoldable pub number_text : Base → ℕ → List ℕ
number_text Decimal n = decimal n
number_text Hex n = hex n

-- A number after a blank.
unfoldable pub put_number : Base → List ℕ → ℕ → List ℕ
put_number base hand n = put_within (number_room base) (put_text hand (bytes " ")) (number_text base n)

unfoldable pub number_short : Base → List ℕ → Bool
number_short base hand = is_short hand 1 || is_short (put_text hand (bytes " ")) (number_room base)

-- Numbers, each after a blank, and whether anything is written out for their room.
unfoldable pub put_numbers : Base → List ℕ → List ℕ → List ℕ
put_numbers base hand [] = hand
put_numbers base hand (n ∷ numbers) = put_numbers base (put_number base hand n) numbers

unfoldable pub numbers_short : Base → List ℕ → List ℕ → Bool
numbers_short base hand [] = false
numbers_short base hand (n ∷ numbers) = number_short base hand || numbers_short base (put_number base hand n) numbers

-- What stays of a pen: its stream, and that a write was refused. Only where something is written out may one be refused.
pub record Stays (old new : Pen) (out : Bool) : Type 0 where
  pub stream : new.stream ≡ old.stream
  pub failed : new.failed ≡ cond out (old.failed || new.failed) old.failed

room_there : room_made (bytes "seg") 4093 ≡ bytes "seg"
unfolding room_made is_short
room_there = refl

room_short : room_made (bytes "seg") 4094 ≡ []
unfolding room_made is_short
room_short = refl

after : put_text (bytes "at") (bytes " 7") ≡ bytes "at 7"
unfolding put_text put_within room_made is_short
after = refl

in_decimal : put_numbers Decimal (bytes "shape") (7 ∷ 12 ∷ []) ≡ bytes "shape 7 12"
unfolding put_numbers put_number put_text put_within room_made is_short number_room number_text decimal
in_decimal = refl

in_hex : put_numbers Hex [] (46 ∷ []) ≡ bytes " 0000002e"
unfolding put_numbers put_number put_text put_within room_made is_short number_room number_text hex
in_hex = refl

nothing_out : numbers_short Hex (bytes "words") (46 ∷ 47 ∷ []) ≡ false
unfolding numbers_short number_short put_number put_text put_within room_made is_short number_room number_text hex
nothing_out = refl
