-- The lines of a text. A reader must believe nothing. Assumes nothing.
use Rattle.std.specs.Prelude.{ℕ, zero, suc, ◌≡◌, refl, cond, List, [], ◌∷◌, take}
use Rattle.line_tool.specs.Text.{bytes}
use Rattle.line_tool.specs.Tokens.{leading, is_of}
use Rattle.line_tool.specs.declared.tokens.Kind.TheVariants.{InLine}

-- The line of a number, the first being 0; past the last line there is none.
abbrev pub text_line : ℕ → List ℕ → List ℕ
text_line zero text = take (leading (is_of InLine) text) text
text_line (suc k) [] = []
text_line (suc k) (b ∷ text) = cond (is_of InLine b) (text_line (suc k) text) (text_line k text)

second-line : text_line 1 (97 ∷ 10 ∷ 98 ∷ 99 ∷ 10 ∷ []) ≡ bytes "bc"
second-line = refl

no_line : text_line 2 (97 ∷ 10 ∷ 98 ∷ []) ≡ []
no_line = refl
