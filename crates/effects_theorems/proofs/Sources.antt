-- A result placed or shared: one owner more, seen as the source means.
use Prim.Native.Nat.{ℕ, ◌<◌}
use mathlib.Core.Path.{◌≡◌, refl, ◌∙◌}
use mathlib.Core.Bool.{false}
use mathlib.Core.Logic.{◌≢◌, inl}
use mathlib.Core.List.{List, ◌∷◌}
use native.Mathlib.Omega.{arith}
use lib.ListN.{length}
use Rattle.descriptor.specs.Fields.{is_array, undefined_word}
use Rattle.descriptor.proofs.Arrays.{scalar-array}
use Rattle.segment.specs.Cells.{Cell, undefined, cell}
use Rattle.storage.specs.Arrays.{place_at, share}
use Rattle.storage.specs.Heap.{count}
use Rattle.storage.specs.Owned.{Owned, OwnedStep}
use Rattle.segment.specs.View.{owners, view}
use Rattle.segment.proofs.Runs.{undefined-cell}
use Rattle.manual.specs.Effects.{Source, variable, operand, word, undefined_value, reference, made, meant}
use Rattle.storage_theorems.proofs.Counts.{hit_same}
use Rattle.storage_theorems.proofs.Steps.{step-none, plain, share-own}
use Rattle.storage_theorems.proofs.Place.{place-theorem}
use Rattle.effects.specs.Sources.{held_at, operand_at, reference_word, source_word, placed}
use Rattle.effects.specs.Sound.{Sound}
use Rattle.effects.specs.Fits.{Available}
use Rattle.effects_theorems.proofs.Cells.{scalar-cell, reference-array, reference-cell}
use Rattle.effects_theorems.proofs.Sound.{owners-few}
use Rattle.effects_theorems.proofs.Variables.{variable-owner, look-view, operand-owner, operand-view}

pub record Put (s ws s1 : List ℕ) (w : ℕ) (c : Cell) : Type 0 where
  pub step : OwnedStep s ws s1 (w ∷ ws)
  pub shown : cell s1 w ≡ c

pub put-shared : {s ws : List ℕ} (w : ℕ) (c : Cell) → Owned s ws → length ws < 65535 → 0 < count w ws → cell s w ≡ c → Put s ws (share s w) w c
put-shared {s} {ws} w c o few h e =
    let f = share-own w o few (inl h) in
    record { step = f; shown = f.same w h (omega (arith, hit_same w)) ∙ e }

put-plain : {s ws : List ℕ} (w : ℕ) (c : Cell) → Owned s ws → is_array w ≡ false → cell s w ≡ c → Put s ws s w c
put-plain {s} {ws} w c o n e = record { step = step-none (w ∷ ws) (plain w ws n) o; shown = e }

-- The block that a source asks for is found.
abbrev pub Found : List ℕ → Source → Type 0
Found s (variable t) = Unit {0}
Found s (operand i) = Unit {0}
Found s (word w) = Unit {0}
Found s undefined_value = Unit {0}
Found s (reference t) = Unit {0}
Found s (made shape ravel) = place_at s shape ravel ≢ 0

pub put-source : (s : List ℕ) (g : Sound s) (source : Source) → Available s source → Found s source
    → Put s (owners s) (placed s source) (source_word s source) (meant source (view s))
put-source s g (variable t) h f = put-shared (held_at s t) _ g.own (owners-few s g) (variable-owner s g t h) (look-view s g t h)
put-source s g (operand i) h f = put-shared (operand_at s i) _ g.own (owners-few s g) (operand-owner s i h) (operand-view s i h)
put-source s g (word w) h f = put-plain w _ g.own (scalar-array w h) (scalar-cell s w h)
put-source s g undefined_value h f = put-plain undefined_word undefined g.own refl (undefined-cell s)
put-source s g (reference t) h f = put-plain (reference_word t) _ g.own (reference-array t h) (reference-cell s t h)
put-source s g (made shape ravel) h f =
    let n = (place-theorem shape ravel g.own h).new f in
    record { step = n.step; shown = n.seen }
