-- Effects write words of 32 bits where their sources have such words, and the sources of every plan do. Proved in
-- proofs/Theorems. Assumes nothing.
use Rattle.std.specs.Prelude.{ℕ, ◌^◌, ◌<◌, ◌≡◌, false, List, [], ◌∷◌}
use Rattle.segment.specs.Lent.{Words, Bytes}
use Rattle.manual.specs.OrTrap.{gives}
use Rattle.manual.specs.Effects.{Source, variable, operand, word, undefined_value, reference, made, Effect, replaces, discards, swaps, stores, stores_element, enters, leaves, jumps, sets_origin}
use Rattle.manual.specs.Seen.{variables_of}
use Rattle.manual.specs.Instructions.{Running, header_of, plan_at}
use Rattle.effects.specs.Seen.{seen}
use Rattle.effects.specs.Sound.{Sound}
use Rattle.effects.specs.Alike.{HasFrame}
use Rattle.effects.specs.Requests.{AllFit, OneRequest}
use Rattle.effects.specs.Fits.{Fits}
use Rattle.effects.specs.Perform.{perform, performs, is_full, first_full}

abbrev pub SmallSource : Source → Type 0
SmallSource (variable t) = Unit {0}
SmallSource (operand i) = Unit {0}
SmallSource (word w) = w < 2 ^ 32
SmallSource undefined_value = Unit {0}
SmallSource (reference t) = Unit {0}
SmallSource (made shape ravel) = Words ravel

abbrev pub Small : Effect → Type 0
Small (replaces n source) = SmallSource source
Small (discards n) = Unit {0}
Small swaps = Unit {0}
Small (stores t source) = SmallSource source
Small (stores_element t place w n) = w < 2 ^ 32
Small (enters n f) = f < 2 ^ 32
Small (leaves n result) = Unit {0}
Small (jumps place) = Unit {0}
Small (sets_origin v) = v < 2

abbrev pub AllSmall : List Effect → Type 0
AllSmall [] = Unit {0}
AllSmall (e ∷ es) = Small e × AllSmall es

pub record BoundedTheorems : Type 0 where
  pub effect : (s : List ℕ) → Sound s → Words s → (e : Effect) → Fits s e → is_full s e ≡ false → Small e → Words (perform s e)
  pub effects : (s : List ℕ) → Sound s → Words s → (es : List Effect) → AllFit s es → OneRequest es → first_full s es ≡ false → AllSmall es → Words (performs s es)
  -- of an instruction that is decoded: its words are those of the code
  pub plan : (s : List ℕ) → Sound s → Words s → (f : Running) → Bytes f.program.regular → Bytes f.program.alternate
      → HasFrame s (variables_of (header_of f)) (header_of f).result
      → (place : ℕ) (es : List Effect) → plan_at f (seen s) place ≡ gives es → AllSmall es
