-- Laws of legal machines: what more frames allow, that every cell that is looked at is allowed, and that what is named stands in
-- the machine.
use Prim.Native.Nat.{ℕ, ◌≤◌, ◌<◌}
use mathlib.Core.Path.{◌≡◌, refl, subst}
use mathlib.Core.List.{List, ◌∷◌}
use mathlib.Core.Logic.{inl, inr, ⊎_elim}
use native.Mathlib.Omega.{arith}
use lib.ListN.{get_or, length, get_or-eq_default}
use Rattle.descriptor.specs.declared.Target.{Target}
use Rattle.descriptor.specs.declared.Target.TheVariants.{Local, Global}
use Rattle.descriptor.specs.Kinds.{segment}
use Rattle.segment.specs.Cells.{Cell, undefined, indirect, value, invalid}
use Rattle.segment.specs.Machine.{Frame, Machine, depth_of_frames}
use Rattle.manual.specs.Effects.{InFrames, AddressableIn, index_in, global_index, look_frames, look}
use Rattle.storage_theorems.proofs.Counts.{order}
use Rattle.legality.specs.Legal.{DirectCell, VariableIn, MayName, Allowed, LegalFrame, LegalFrames, bottom, upon, Legal}
use Rattle.manual.proofs.Cellwise.{look-here, look-below}

-- ---- lists of cells

-- Such are all cells of a list; `undefined` is what stands past its end.
abbrev pub Every : (Cell → Type 0) → List Cell → Type 0
Every P l = (i : ℕ) → P (get_or l i undefined)

pub every : (P : Cell → Type 0) → P undefined → (l : List Cell) → ((i : ℕ) → i < length l → P (get_or l i undefined)) → Every P l
every P none l h i = ⊎_elim (λ (b : length l ≤ i). rw (get_or-eq_default l undefined b) none) (λ b. h i b) (order (length l) i)

-- ---- frames

module _ (regular alternate : List ℕ) (m : Machine Cell) where
  -- more frames have more variables
  pub names_more : (r : Frame Cell) (l : List (Frame Cell)) (t : Target) → MayName regular alternate m l t → MayName regular alternate m (r ∷ l) t
  names_more r l (Global g) h = h
  names_more r l (Local a) h = inr h

  pub allowed-more : (r : Frame Cell) (l : List (Frame Cell)) (c : Cell) → Allowed regular alternate m l c → Allowed regular alternate m (r ∷ l) c
  allowed-more r l undefined h = tt
  allowed-more r l (indirect t) h = record { names = names_more r l t h.names; direct = h.direct }
  allowed-more r l (value shape ravel) h = tt
  allowed-more r l invalid h = h

  pub direct-allowed : (l : List (Frame Cell)) (c : Cell) → DirectCell c → Allowed regular alternate m l c
  direct-allowed l undefined h = tt
  direct-allowed l (indirect t) h = absurd h
  direct-allowed l (value shape ravel) h = tt
  direct-allowed l invalid h = absurd h

module _ {regular alternate : List ℕ} {m : Machine Cell} where
  pub upon-on : {r : Frame Cell} {l : List (Frame Cell)} → LegalFrame regular alternate m r l → LegalFrames regular alternate m l → LegalFrames regular alternate m (r ∷ l)
  upon-on g (bottom h e) = upon g (bottom h e)
  upon-on g (upon h rest) = upon g (upon h rest)

  pub first : {r : Frame Cell} {l : List (Frame Cell)} → LegalFrames regular alternate m (r ∷ l) → LegalFrame regular alternate m r l
  first (bottom f e) = f
  first (upon f t) = f

  -- ---- every cell that is looked at is allowed

  here-allowed : {r : Frame Cell} {l : List (Frame Cell)} → LegalFrame regular alternate m r l → (a : ℕ) → depth_of_frames l ≤ a
      → Allowed regular alternate m (r ∷ l) (look_frames undefined a (r ∷ l))
  here-allowed {r} {l} g a h =
      let i = index_in r.cells l a in
      rw (look-here a undefined r l h)
      (allowed-more regular alternate m r l (get_or r.cells i undefined) (every (λ c. Allowed regular alternate m l c) tt r.cells g.others i))

  frames-allowed : {l : List (Frame Cell)} → LegalFrames regular alternate m l → (a : ℕ) → Allowed regular alternate m l (look_frames undefined a l)
  frames-allowed (bottom g s) a = here-allowed g a (omega arith)
  frames-allowed (upon {r} {q} {older} g rest) a = ⊎_elim (here-allowed g a) (below (frames-allowed rest a)) (order (depth_of_frames (q ∷ older)) a)
    where
      below : Allowed regular alternate m (q ∷ older) (look_frames undefined a (q ∷ older)) → a < depth_of_frames (q ∷ older)
          → Allowed regular alternate m (r ∷ q ∷ older) (look_frames undefined a (r ∷ q ∷ older))
      below more h =
          rw (look-below a undefined r (q ∷ older) h) (allowed-more regular alternate m r (q ∷ older) (look_frames undefined a (q ∷ older)) more)

  -- ---- what is named stands in the machine

  variable-in : {l : List (Frame Cell)} → LegalFrames regular alternate m l → (a : ℕ) → VariableIn regular alternate l a → InFrames a l
  variable-in (bottom f n) a (inl v) = inl (omega (arith, v, f.cells), v.1)
  variable-in (bottom f n) a (inr v) = absurd v
  variable-in (upon f t) a (inl v) = inl (omega (arith, v, f.cells), v.1)
  variable-in (upon f t) a (inr v) = inr (variable-in t a v)

  -- also in a machine of fewer frames
  pub names_in : (n : Machine Cell) → LegalFrames regular alternate m n.frames → length n.globals ≡ length m.globals
      → (u : Target) → MayName regular alternate m n.frames u → AddressableIn u n
  names_in n h e (Global g) k = (k.0, omega (arith, k, e))
  names_in n h e (Local a) k = variable-in h a.0 k

  module _ (h : Legal regular alternate m) where
    pub global-direct : (g : ℕ) → DirectCell (look undefined (Global (segment g)) m)
    global-direct g = every DirectCell tt m.globals h.globals (global_index m.globals g)

    pub look-allowed : (t : Target) → Allowed regular alternate m m.frames (look undefined t m)
    look-allowed (Global x) = direct-allowed regular alternate m m.frames (look undefined (Global x) m) (global-direct x.0)
    look-allowed (Local a) = frames-allowed h.frames a.0

    -- what a variable names that holds an indirect word
    pub held_in : (t u : Target) → look undefined t m ≡ indirect u → AddressableIn u m
    held_in t u e = names_in m h.frames refl u (subst (Allowed regular alternate m m.frames) e (look-allowed t)).names
