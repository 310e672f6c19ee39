-- The variable that an address leads to in a legal machine is one, and holds no indirect word.
use Prim.Native.Nat.{ℕ, ◌+◌, ◌-◌, ◌≤◌}
use mathlib.Core.Path.{◌≡◌, refl, subst}
use mathlib.Core.Bool.{◌||◌}
use mathlib.Core.Logic.{inl}
use mathlib.Core.List.{List}
use native.Mathlib.Omega.{arith}
use lib.Dec.{ltb, leb}
use lib.ListN.{length}
use borrow.Author.Tests.{ltb-false, leb-false}
use Rattle.descriptor.specs.declared.Target.{Target}
use Rattle.descriptor.specs.declared.Target.TheVariants.{Local, Global}
use Rattle.descriptor.specs.Kinds.{segment, stack}
use Rattle.descriptor.proofs.Truth.{neither}
use Rattle.segment.specs.Cells.{Cell, undefined, indirect, value, invalid}
use Rattle.segment.specs.Machine.{Frame, Machine, depth_of_frames}
use Rattle.instruction.specs.declared.Address.{Address}
use Rattle.instruction.specs.declared.Address.TheVariants as A
use Rattle.manual.specs.OrTrap.{OrTrap}
use Rattle.manual.specs.Effects.{look}
use Rattle.manual.specs.Seen.{Variable, followed, follow, variables_of, seen_of}
use Rattle.manual.specs.Instructions.{Running, header_of, resolve}
use Rattle.manual.specs.Cases.{OfPlan, Reaches}
use Rattle.manual.proofs.Lists.{stops}
use Rattle.legality.specs.Legal.{VariableIn, MayName, NamesDirect, Allowed, LegalFrames, Legal}
use Rattle.legality.specs.Kept.{RunsIn}
use Rattle.legality.proofs.Legal.{first, look-allowed}

module _ {regular alternate : List ℕ} {m : Machine Cell} (g : Legal regular alternate m) where
  abbrev Variables : OrTrap Variable → Type 0
  Variables x = OfPlan (λ v. NamesDirect regular alternate m m.frames v.place) (λ class number. Unit {0}) x

  followed-leads : (t : Target) (c : Cell) → NamesDirect regular alternate m m.frames t → Variables (followed t c)
  followed-leads t undefined h = h
  followed-leads t (indirect u) h = tt
  followed-leads t (value shape ravel) h = h
  followed-leads t invalid h = h

  follow-leads : (t : Target) (c : Cell) → look undefined t m ≡ c → MayName regular alternate m m.frames t → Allowed regular alternate m m.frames c
      → Variables (follow (λ u. look undefined u m) t c)
  follow-leads t undefined e n a = record { names = n; direct = rw e tt }
  follow-leads t (indirect u) e n a = followed-leads u (look undefined u m) a
  follow-leads t (value shape ravel) e n a = record { names = n; direct = rw e tt }
  follow-leads t invalid e n a = absurd a

  -- The words below LBASE are the current frame's variables.
  local-names : (f : Running) → RunsIn regular alternate f m → (v : ℕ) → 1 ≤ v → v ≤ variables_of (header_of f)
      → VariableIn regular alternate m.frames (depth_of_frames m.frames - 2 - v)
  local-names f runs v low high =
      let k = (first (subst (λ (l : List (Frame Cell)). LegalFrames regular alternate m l) runs.frames g.frames)).cells in
      rw runs.frames (inl (omega (arith, runs.size, k), omega (arith, runs.size, k)))

  address-leads : (words : ℕ) (f : Running) → RunsIn regular alternate f m → (a : Address) → Variables (resolve (seen_of words m) (header_of f) a)
  unfolding seen_of
  address-leads words f runs (A.Local v) =
      let t = Local (stack (depth_of_frames m.frames - 2 - v)) in
      stops _ _ (ltb v 1 || ltb (variables_of (header_of f)) v) _ _ _ tt (λ b.
      let c = neither (ltb v 1) (ltb (variables_of (header_of f)) v) b in
      follow-leads t (look undefined t m) refl (local-names f runs v (ltb-false v 1 c.0) (ltb-false (variables_of (header_of f)) v c.1)) (look-allowed g t))
  address-leads words f runs (A.Global x) =
      let t = Global (segment x.0) in
      stops _ _ (ltb x.0 8 || leb (8 + length m.globals) x.0) _ _ _ tt (λ b.
      let c = neither (ltb x.0 8) (leb (8 + length m.globals) x.0) b in
      follow-leads t (look undefined t m) refl (ltb-false x.0 8 c.0, leb-false (8 + length m.globals) x.0 c.1) (look-allowed g t))

  pub reached-leads : (words : ℕ) (f : Running) → RunsIn regular alternate f m → (a : Address) (x : Variable) → Reaches f (seen_of words m) a x
      → NamesDirect regular alternate m m.frames x.place
  reached-leads words f runs a x r = subst Variables r (address-leads words f runs a)
