-- What loads and constants push: the word that a variable holds, and the words of a vector that stands in the code. Assumes nothing.
use Rattle.std.specs.Prelude.{ℕ, ◌%◌, ◌^◌, ◌≡◌, List, Result}
use Rattle.trap.specs.declared.Trap.{Trap}
use Rattle.descriptor.specs.declared.Target.{Target}
use Rattle.manual.specs.OrTrap.{gives}
use Rattle.manual.specs.Seen.{at}
use Rattle.manual.specs.Loads.{load}
use Rattle.manual.specs.Instructions.{words_from}
use Rattle.effects.specs.Sources.{held_at}
use Rattle.effects.specs.Seen.{read}
use Rattle.effects.specs.Carried.{CarriesOut}
use Rattle.effects.specs.declared.Outcome.{Outcome}

-- A load of any variable that holds `w`.
abbrev pub LoadsHeld : List ℕ → Result Outcome Trap → List ℕ → ℕ → ℕ → Type 0
LoadsHeld s outcome after next w = (t : Target) → w ≡ held_at s t → CarriesOut s outcome after (λ sees. load sees next (gives (at t (read s w))))

-- So many words of the code, from a place of sixteen bits on.
abbrev pub words_at : ℕ → List ℕ → ℕ → List ℕ
words_at n code first = words_from n code (first % 2 ^ 16)
