-- A text as its bytes: every character of the texts below is in ASCII. A reader must believe: that. Assumes nothing.
use Rattle.std.specs.Prelude.{ℕ, ◌≡◌, refl, List, [], ◌∷◌}
use Prim.Native.Char.{code}
use Prim.Native.String.{String}
use Prim.Native.String as text

abbrev pub bytes : String → List ℕ
bytes text.[] = []
bytes (text.◌∷◌ c s) = code c ∷ bytes s

seg : bytes "seg" ≡ 115 ∷ 101 ∷ 103 ∷ []
seg = refl
