-- The numbers of a file of imports. Document 02, paper 1: "numbers in groups of seven bits, low group first, the top bit meaning
-- more, at most four groups, no needless zero group"; decision 82. A reader must believe: a file is its bytes, and places count
-- from 0. Assumes nothing.
use Rattle.std.specs.Prelude.{ℕ, zero, suc, ◌+◌, ◌*◌, ◌-◌, ◌^◌, cond, List, [], ◌∷◌, Option, Some, None, ltb, eqb, get_or, length}

-- A number and the place after it, if there is one.
abbrev pub FoundNumber : Type 0
FoundNumber = Option (ℕ × ℕ)

-- A low group, and the number that the groups after it are: where that is 0, they are needless.
abbrev pub above : ℕ → FoundNumber → FoundNumber
above low (Some (high, next)) = cond (eqb high 0) None (Some (low + 2 ^ 7 * high, next))
above low None = None

-- A number of at most so many groups: its value and the place after it.
unfoldable pub groups_at : ℕ → List ℕ → ℕ → FoundNumber
groups_at zero file place = None
groups_at (suc groups) file place =
    let b = get_or file place 0 in
    let rest = groups_at groups file (place + 1) in
    cond (ltb place (length file)) (cond (ltb b (2 ^ 7)) (Some (b, place + 1)) (above (b - 2 ^ 7) rest)) None

unfoldable pub number_at : List ℕ → ℕ → FoundNumber
number_at file place = groups_at 4 file place

-- What is done with a number and the place after it, and the answer where there is none.
abbrev pub if_number : {A : Type 0} → FoundNumber → A → (ℕ → ℕ → A) → A
if_number (Some (n, next)) none f = f n next
if_number None none f = none

-- ---- several

-- Numbers one after the other, and the place after the last.
pub data Numbers : Type 0 where
  numbers : List ℕ → ℕ → Numbers
  bad : Numbers

abbrev pub and_more : ℕ → Numbers → Numbers
and_more n (numbers ns next) = numbers (n ∷ ns) next
and_more n bad = bad

abbrev pub if_numbers : {A : Type 0} → Numbers → A → (List ℕ → ℕ → A) → A
if_numbers (numbers ns next) none f = f ns next
if_numbers bad none f = none

-- So many, none of them above a limit.
unfoldable pub several_at : ℕ → ℕ → List ℕ → ℕ → Numbers
several_at limit zero file place = numbers [] place
several_at limit (suc count) file place =
    if_number (number_at file place) bad (λ n next. cond (ltb limit n) bad (and_more n (several_at limit count file next)))
