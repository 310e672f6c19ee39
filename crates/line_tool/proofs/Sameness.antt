-- Two texts are the same where all their bytes are.
use Prim.Native.Nat.{ℕ}
use mathlib.Core.Path.{◌≡◌, refl}
use mathlib.Core.Bool.{Bool, true, false, cond, ◌&&◌}
use mathlib.Core.List.{List, [], ◌∷◌}
use lib.Dec.{eqb}
use lib.Pointwise.{pointwise}
use Rattle.line_tool.specs.Commands.{is}

both-are : (a b : Bool) → (a && b) ≡ cond a b false
both-are true b = refl
both-are false b = refl

pub pointwise-is : (s t : List ℕ) → pointwise eqb s t ≡ is s t
unfolding is
pointwise-is [] [] = refl
pointwise-is [] (b ∷ t) = refl
pointwise-is (c ∷ s) [] = refl
pointwise-is (c ∷ s) (b ∷ t) = rw (← pointwise-is s t) (both-are (eqb c b) (pointwise eqb s t))
