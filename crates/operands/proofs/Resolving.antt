-- Resolving on words is the manual's on what is seen.
use Prim.Native.Nat.{ℕ, ◌-◌, ◌≤◌, ◌<◌}
use mathlib.Core.Path.{◌≡◌, refl, ◌∙◌}
use mathlib.Core.Bool.{Bool, true, false, cond, ◌||◌}
use mathlib.Core.List.{List}
use lib.Dec.{ltb, leb}
use borrow.Author.Tests.{lt-ltb, le-ltb, le-leb, lt-leb}
use Rattle.descriptor.specs.declared.address.StackAddress.{StackAddress}
use Rattle.descriptor.specs.declared.Target.{Target}
use Rattle.descriptor.specs.declared.Target.TheVariants.{Local, Global}
use Rattle.descriptor.specs.declared.Kind.{Kind}
use Rattle.descriptor.specs.declared.Kind.TheVariants as K
use Rattle.descriptor.specs.Kinds.{kind_of, segment, stack}
use Rattle.instruction.specs.declared.Address.{Address}
use Rattle.instruction.specs.declared.Address.TheVariants as A
use Rattle.segment.specs.Blocks.{shape_at, elements_at}
use Rattle.segment.specs.Cells.{Cell, value, invalid}
use Rattle.segment.specs.State.{lbase, blockptr}
use Rattle.procedure.specs.declared.header.Header.{Header}
use Rattle.manual.specs.OrTrap.{gives, stop_if}
use Rattle.manual.specs.Seen as manual
use Rattle.manual.specs.Instructions.{resolve}
use Rattle.effects.specs.Sources.{held_at}
use Rattle.effects.specs.Seen.{whole, read_kind, read, seen}
use Rattle.std.specs.Prelude.{◌⊎◌, Result, Ok, Err}
use Rattle.std.proofs.Common.{inl, inr}
use Rattle.trap.specs.Trap.{trap_of}
use Rattle.trap.specs.declared.Trap.{Trap}
use Rattle.operands.specs.declared.variables.Variable.{Variable}
use Rattle.operands.specs.Variables.{variable, resolved_target_by, resolved_target, resolved_variable_by, resolved_variable, resolved_local, resolved_global, resolved, variable_seen, Sure}

-- An array that cannot be read is the end of the way too.
array-followed : (t : Target) (shape ravel : List ℕ) (b : Bool) → gives (manual.at t (cond b (value shape ravel) invalid)) ≡ manual.followed t (cond b (value shape ravel) invalid)
array-followed t shape ravel true = refl
array-followed t shape ravel false = refl

array-follow : (held : Target → Cell) (t : Target) (shape ravel : List ℕ) (b : Bool) → gives (manual.at t (cond b (value shape ravel) invalid)) ≡ manual.follow held t (cond b (value shape ravel) invalid)
array-follow held t shape ravel true = refl
array-follow held t shape ravel false = refl

module _ (s : List ℕ) where
  abbrev held : Target → Cell
  held t = read s (held_at s t)

  target-by : (t : Target) (w : ℕ) (k : Kind) → kind_of w ≡ k → variable_seen s (resolved_target_by t w k) ≡ manual.followed t (read_kind s w k)
  unfolding read
  target-by t w (K.Scalar k) e = rw e
  target-by t w (K.Array a) e = rw e (array-followed t (shape_at s a.0) (elements_at s a.0) (whole s a.0))
  target-by t w (K.Indirect u) e = refl
  target-by t w K.Undefined e = rw e
  target-by t w K.Invalid e = rw e

  target-seen : (t : Target) → variable_seen s (resolved_target s t) ≡ manual.followed t (held t)
  unfolding resolved_target read
  target-seen t = target-by t (held_at s t) (kind_of (held_at s t)) refl

  variable-by : (t : Target) (w : ℕ) (k : Kind) → kind_of w ≡ k → variable_seen s (resolved_variable_by s t w k) ≡ manual.follow held t (read_kind s w k)
  unfolding read
  variable-by t w (K.Scalar k) e = rw e
  variable-by t w (K.Array a) e = rw e (array-follow held t (shape_at s a.0) (elements_at s a.0) (whole s a.0))
  variable-by t w (K.Indirect u) e = target-seen u
  variable-by t w K.Undefined e = rw e
  variable-by t w K.Invalid e = rw e

  variable-seen : (t : Target) → variable_seen s (resolved_variable s t) ≡ manual.follow held t (held t)
  unfolding resolved_variable read
  variable-seen t = variable-by t (held_at s t) (kind_of (held_at s t)) refl

  judged : (class number : ℕ) (a b : Bool) (t : Target) → variable_seen s (cond a (Err (trap_of class number)) (cond b (Err (trap_of class number)) (resolved_variable s t))) ≡ stop_if (a || b) class number (manual.follow held t (held t))
  judged class number true b t = refl
  judged class number false true t = refl
  judged class number false false t = variable-seen t

  pub resolved-seen : (variables : ℕ) (h : Header) (address : Address) → variables ≡ manual.variables_of h → variable_seen s (resolved s variables address) ≡ resolve (seen s) h address
  unfolding resolved_local resolved_global seen
  resolved-seen variables h (A.Local v) e = rw (← e) (judged 3 2 (ltb v 1) (ltb variables v) (Local (stack (lbase s - v))))
  resolved-seen variables h (A.Global g) e = judged 3 3 (ltb g.0 8) (leb (blockptr s) g.0) (Global (segment g.0))

  -- By the ways of the code.
  direct-target : (t : Target) (w : ℕ) (k : Kind) → ((u : Target) → k ≡ K.Indirect u → ⊥) → Ok (variable t w) ≡ resolved_target_by t w k
  direct-target t w (K.Indirect u) other = absurd (other u refl)
  direct-target t w (K.Scalar k) other = refl
  direct-target t w (K.Array a) other = refl
  direct-target t w K.Undefined other = refl
  direct-target t w K.Invalid other = refl

  direct-variable : (t : Target) (w : ℕ) (k : Kind) → ((u : Target) → k ≡ K.Indirect u → ⊥) → Ok (variable t w) ≡ resolved_variable_by s t w k
  direct-variable t w (K.Indirect u) other = absurd (other u refl)
  direct-variable t w (K.Scalar k) other = refl
  direct-variable t w (K.Array a) other = refl
  direct-variable t w K.Undefined other = refl
  direct-variable t w K.Invalid other = refl

  module _ (t : Target) (w : ℕ) (k : Kind) (here : w ≡ held_at s t) (kind : k ≡ kind_of w) (other : (u : Target) → k ≡ K.Indirect u → ⊥) where
    pub target_direct : Ok (variable t w) ≡ resolved_target s t
    unfolding resolved_target
    target_direct = direct-target t w k other ∙ rw (kind, here)

    pub variable_direct : Ok (variable t w) ≡ resolved_variable s t
    unfolding resolved_variable
    variable_direct = direct-variable t w k other ∙ rw (kind, here)

  pub local-outside : (variables v : ℕ) → (v < 1) ⊎ ((1 ≤ v) × (variables < v)) → Err (trap_of 3 2) ≡ resolved_local s variables v
  unfolding resolved_local
  local-outside variables v (inl low) = simp (lt-ltb _ _ low)
  local-outside variables v (inr past) = simp (le-ltb _ _ past.0, lt-ltb _ _ past.1)

  pub local-inside : (variables v : ℕ) (at : StackAddress) → at.0 ≡ lbase s - v → 1 ≤ v → v ≤ variables → resolved_variable s (Local at) ≡ resolved_local s variables v
  unfolding resolved_local
  local-inside variables v at e some inside = rw (le-ltb v 1 some, le-ltb variables v inside, ← e)

  pub global-outside : (g : ℕ) → (g < 8) ⊎ ((8 ≤ g) × (blockptr s ≤ g)) → Err (trap_of 3 3) ≡ resolved_global s g
  unfolding resolved_global
  global-outside g (inl low) = simp (lt-ltb _ _ low)
  global-outside g (inr past) = simp (le-ltb _ _ past.0, le-leb _ _ past.1)

  pub global-inside : (g : ℕ) → 8 ≤ g → g < blockptr s → resolved_global s g ≡ resolved_variable s (Global (segment g))
  unfolding resolved_global
  global-inside g some inside = simp (le-ltb _ _ some, lt-leb _ _ inside)

  -- The word that comes with a variable is the one that it holds.
  target-sure : (t : Target) → Sure s (resolved_target s t)
  unfolding resolved_target
  target-sure t = by_kind (kind_of (held_at s t))
    where
      by_kind : (k : Kind) → Sure s (resolved_target_by t (held_at s t) k)
      by_kind (K.Scalar k) = refl
      by_kind (K.Array a) = refl
      by_kind (K.Indirect u) = tt
      by_kind K.Undefined = refl
      by_kind K.Invalid = refl

  variable-sure : (t : Target) → Sure s (resolved_variable s t)
  unfolding resolved_variable
  variable-sure t = by_kind (kind_of (held_at s t))
    where
      by_kind : (k : Kind) → Sure s (resolved_variable_by s t (held_at s t) k)
      by_kind (K.Scalar k) = refl
      by_kind (K.Array a) = refl
      by_kind (K.Indirect u) = target-sure u
      by_kind K.Undefined = refl
      by_kind K.Invalid = refl

  trapped-or : (class number : ℕ) (a b : Bool) (t : Target) → Sure s (cond a (Err (trap_of class number)) (cond b (Err (trap_of class number)) (resolved_variable s t)))
  trapped-or class number true b t = tt
  trapped-or class number false true t = tt
  trapped-or class number false false t = variable-sure t

  resolved-sure : (variables : ℕ) (address : Address) → Sure s (resolved s variables address)
  unfolding resolved_local resolved_global
  resolved-sure variables (A.Local v) = trapped-or 3 2 (ltb v 1) (ltb variables v) (Local (stack (lbase s - v)))
  resolved-sure variables (A.Global g) = trapped-or 3 3 (ltb g.0 8) (leb (blockptr s) g.0) (Global (segment g.0))

  pub sure : (variables : ℕ) (address : Address) (r : Result Variable Trap) → r ≡ resolved s variables address → Sure s r
  sure variables address r e = rw e (resolved-sure variables address)
