-- A number that no entry of a table has, and a line in a text, found byte by byte.
use Prim.Native.Nat.{ℕ, ◌-◌}
use Prim.Native.String.{String}
use native.Mathlib.Nat.{add-sub_cancel_left}
use mathlib.Core.Path.{◌≡◌, refl}
use mathlib.Core.List.{List, [], ◌∷◌}
use borrow.Author.Tests.{ne_eqb}
use lib.ListN.{take, drop}
use Rattle.line_tool.specs.Tokens.{leading, is_of, line_end, after_all}
use Rattle.line_tool.specs.declared.tokens.Kind.TheVariants.{InLine}
use Rattle.line_tool.specs.Explain.{lookup}
use Rattle.line_tool.specs.Tables.{text_line}

-- ---- a number that no entry has

-- something else is known, and the number is none of the table's, the last of them said last
abbrev pub Passed : Type 0 → ℕ → List (ℕ × String) → Type 0
Passed known n [] = known
Passed known n (entry ∷ table) = Passed (known × (n ≡ entry.0 → ⊥)) n table

pub unknown : {known : Type 0} (n : ℕ) (table : List (ℕ × String)) (none : String) → Passed known n table → known × (lookup n table none ≡ none)
unknown n [] none passed = (passed, refl)
unknown n (entry ∷ table) none passed =
    let rest = unknown n table none passed in
    (rest.0.0, rw (ne_eqb n entry.0 rest.0.1) rest.1)

-- ---- a line in a text, found byte by byte

pub record Passing (text : List ℕ) (k left i : ℕ) : Type 0 where
  pub so_far : text_line left (drop i text) ≡ text_line k text

pub line-between : (text : List ℕ) (start end k : ℕ) → end ≡ line_end text start → text_line 0 (drop start text) ≡ text_line k text → take (end - start) (drop start text) ≡ text_line k text
unfolding line_end after_all
line-between text start end k e same = rw (e, add-sub_cancel_left start (leading (is_of InLine) (drop start text))) same
