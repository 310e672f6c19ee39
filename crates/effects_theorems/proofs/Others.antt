-- A variable that is not stored to is seen as before, by an effect and by several one after the other.
use mathlib.Core.Path.{◌≡◌, refl, ◌∙◌, ap}
use mathlib.Core.Bool.{false}
use mathlib.Core.List.{List, [], ◌∷◌}
use Prim.Native.Nat.{ℕ}
use Rattle.descriptor.specs.declared.Target.{Target}
use Rattle.segment.specs.Cells.{undefined}
use Rattle.segment.specs.View.{view}
use Rattle.manual.specs.Effects.{Effect, StoresTo, NoneStoresTo, look, AddressableIn, perform_on}
use Rattle.manual.proofs.Performed.{performed-look}
use Rattle.effects.specs.Perform.{perform, performs, is_full, first_full}
use Rattle.effects.specs.Sound.{Sound}
use Rattle.effects.specs.Fits.{Addressable, Fits}
use Rattle.effects.specs.Requests.{AllFit, OneRequest}
use Rattle.effects_theorems.specs.Theorems.{StandsThrough}
use Rattle.effects_theorems.proofs.Variables.{in-view}
use Rattle.effects_theorems.proofs.Effects.{perform-theorem}
use Rattle.effects_theorems.proofs.Lists.{AllServed, all-served}

pub others-theorem : (s : List ℕ) → Sound s → (e : Effect) → Fits s e → is_full s e ≡ false → (t : Target) → Addressable s t → Addressable (perform s e) t
    → (StoresTo e t → ⊥) → look undefined t (view (perform s e)) ≡ look undefined t (view s)
others-theorem s g e h f t before after d =
    let p = perform-theorem s g e h f in
    let k : AddressableIn t (perform_on e (view s)) = rw p.seen at ((in-view (perform s e) t).0 after) in
    ap (look undefined t) p.seen ∙ performed-look e (view s) t ((in-view s t).0 before) k d

-- one after the other
pub stands-first : (s : List ℕ) (es : List Effect) (t : Target) → StandsThrough s es t → Addressable s t
stands-first s [] t h = h
stands-first s (e ∷ es) t h = h.0

others-in-turn : (s : List ℕ) → Sound s → (es : List Effect) → AllServed s es → (t : Target) → StandsThrough s es t → NoneStoresTo es t
    → look undefined t (view (performs s es)) ≡ look undefined t (view s)
others-in-turn s g [] h t k d = refl
others-in-turn s g (e ∷ es) h t k d =
    others-in-turn (perform s e) (perform-theorem s g e h.0 h.1).sound es h.2 t k.1 d.1
    ∙ others-theorem s g e h.0 h.1 t k.0 (stands-first (perform s e) es t k.1) d.0

pub all-others-theorem : (s : List ℕ) → Sound s → (es : List Effect) → AllFit s es → OneRequest es → first_full s es ≡ false → (t : Target) → StandsThrough s es t
    → NoneStoresTo es t → look undefined t (view (performs s es)) ≡ look undefined t (view s)
all-others-theorem s g es h k f t stands none = others-in-turn s g es (all-served s es h k f) t stands none
