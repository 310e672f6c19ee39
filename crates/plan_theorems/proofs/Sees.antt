-- What the running function sees of a sound segment.
use Prim.Native.Nat.{ℕ, ◌+◌, ◌-◌, ◌≤◌}
use mathlib.Core.Path.{◌≡◌, refl, ap}
use mathlib.Core.Bool.{Bool, true, false, cond}
use mathlib.Core.List.{List}
use native.Mathlib.Omega.{arith}
use lib.Dec.{ltb}
use lib.ListN.{length}
use borrow.Author.Tests.{ltb-true}
use Rattle.segment.specs.State.{sbase, ltop}
use Rattle.segment.specs.Cells.{undefined}
use Rattle.segment.specs.View.{words, view}
use Rattle.instruction.specs.declared.Address.{Address}
use Rattle.instruction.specs.declared.Address.TheVariants as A
use Rattle.segment.specs.Lent.{Words}
use Rattle.manual.specs.OrTrap.{gives}
use Rattle.manual.specs.Values.{Value}
use Rattle.manual.specs.Effects.{current_cells}
use Rattle.manual.specs.Seen.{Seen, Variable, no_older, variables_of, seen_of}
use Rattle.manual.specs.Scalars.{value_of}
use Rattle.manual.specs.Instructions.{Running, header_of}
use Rattle.manual.specs.Cases.{Operand, Reaches}
use Rattle.effects.specs.Sources.{operand_at}
use Rattle.effects.specs.Seen.{read, temporaries, seen}
use Rattle.effects.specs.Sound.{Sound}
use Rattle.effects.specs.Alike.{HasFrame, Resolved}
use Rattle.effects_theorems.proofs.Variables.{operand-owner}
use Rattle.effects_theorems.proofs.Theorems.{effects-theorems}
use Rattle.plan_theorems.proofs.Given.{given}
use Rattle.plan_theorems.proofs.Values.{ValueFits, Stored}
use Rattle.plan_theorems.proofs.Cells.{CellFits, value-given, read_fits}

-- All that a plan's effects are judged by. The current frame has so many variables.
pub record Sees (s : List ℕ) (variables : ℕ) (v : Seen) : Type 0 where
  pub origin : v.origin ≤ 1
  pub room : sbase s + ltop s + 1 + v.room ≤ length s
  pub count : v.count ≡ temporaries s
  pub operand : (i : ℕ) → CellFits (v.operand i)
  pub local : (n : ℕ) (x : Variable) → v.local variables n ≡ gives x → Resolved s x
  pub global : (g : ℕ) (x : Variable) → v.global g ≡ gives x → Resolved s x
  pub cells : variables ≤ length (current_cells (words s).frames)
  pub bottom : v.bottom ≡ no_older (view s).frames

pub sees : (s : List ℕ) → Sound s → Words s → (variables : ℕ) (result : Bool) → HasFrame s variables result → Sees s variables (seen s)
unfolding seen seen_of
sees s g short variables result runs =
    record {
      origin = omega arith;
      room = omega (arith, g.fits);
      count = refl;
      operand = λ i. operand-fits i (ltb i (temporaries s)) refl;
      local = effects-theorems.local s g variables result runs;
      global = effects-theorems.global s g variables result runs;
      cells = runs.cells;
      bottom = ap (λ (v : Seen). v.bottom) (effects-theorems.alike s g variables result runs);
    }
  where
    operand-fits : (i : ℕ) (b : Bool) → ltb i (temporaries s) ≡ b → CellFits (cond b (read s (operand_at s i)) undefined)
    operand-fits i true e = read_fits g.own short (operand_at s i) (short (sbase s + ltop s - i)) (operand-owner s i (ltb-true i (temporaries s) e))
    operand-fits i false e = tt

-- what is known of an operand's value, and of the variable that an address leads to
pub operand-stored : {s : List ℕ} {variables : ℕ} {v : Seen} → Sees s variables v → (i : ℕ) {a : Value} → Operand v i a → Stored a
operand-stored {v = v} h i e = given Stored (value_of (v.operand i)) _ (value-given (v.operand i) (h.operand i)) e

pub operand-fits : {s : List ℕ} {variables : ℕ} {v : Seen} → Sees s variables v → (i : ℕ) {a : Value} → Operand v i a → ValueFits a
operand-fits h i e = (operand-stored h i e).fits

pub resolved : {s : List ℕ} {v : Seen} (f : Running) → Sees s (variables_of (header_of f)) v → (a : Address) {x : Variable} → Reaches f v a x → Resolved s x
resolved f h (A.Local n) e = h.local n _ e
resolved f h (A.Global q) e = h.global q.0 _ e
