-- Effects one after the other: what each needs of the segment that it meets, and which may ask for a block. Assumes nothing.
use Rattle.std.specs.Prelude.{ℕ, ◌≡◌, List, [], ◌∷◌}
use Rattle.manual.specs.Effects.{Effect}
use Rattle.effects.specs.Perform.{perform, wanted}
use Rattle.effects.specs.Fits.{Fits}

-- Each fits the segment that those before it leave.
abbrev pub AllFit : List ℕ → List Effect → Type 0
AllFit s [] = Unit {0}
AllFit s (e ∷ es) = Fits s e × AllFit (perform s e) es

-- The first fits: no more is known where its request is not served.
abbrev pub FirstFits : List ℕ → List Effect → Type 0
FirstFits s [] = Unit {0}
FirstFits s (e ∷ es) = Fits s e

-- Whatever the segment is, none asks for a block.
abbrev pub NoneAsks : List Effect → Type 0
NoneAsks [] = Unit {0}
NoneAsks (e ∷ es) = ((s : List ℕ) → wanted s e ≡ 0) × NoneAsks es

-- In every plan of the manual only the first effect may ask.
abbrev pub OneRequest : List Effect → Type 0
OneRequest [] = Unit {0}
OneRequest (e ∷ es) = NoneAsks es
