-- Frames that differ in PCTR and in cells that are direct now: they have the same variables, and what was legal stays legal.
use Prim.Native.Nat.{ℕ, ◌*◌, ◌^◌, ◌≤◌, ◌<◌}
use mathlib.Core.Path.{◌≡◌, refl, ◌∙◌, ap}
use mathlib.Core.Logic.{◌⊎◌, inl, inr, ⊎_elim}
use mathlib.Core.List.{List, [], ◌∷◌}
use native.Mathlib.Omega.{arith}
use lib.ListN.{get_or, length}
use Rattle.descriptor.specs.declared.Target.{Target}
use Rattle.descriptor.specs.declared.Target.TheVariants.{Local, Global}
use Rattle.segment.specs.Cells.{Cell, undefined, indirect, value, invalid}
use Rattle.segment.specs.Machine.{Frame, Machine, depth_of_frames}
use Rattle.manual.specs.Effects.{index_in, global_index, look_frames, look}
use Rattle.storage_theorems.proofs.Counts.{order}
use Rattle.acceptance.specs.Frames.{known, arguments, variables}
use Rattle.legality.specs.Legal.{function_word, DirectCell, VariableIn, MayName, Allowed, LegalFrame, LegalFrames, bottom, upon, Legal}
use Rattle.manual.proofs.Cellwise.{look-here, look-below, index_same, global-same}
use Rattle.legality.proofs.Legal.{names_more, direct-allowed, upon-on}

-- ---- alike

pub record LikeCells (l k : List Cell) : Type 0 where
  pub size : length k ≡ length l
  pub each : (i : ℕ) → (get_or k i undefined ≡ get_or l i undefined) ⊎ DirectCell (get_or k i undefined)

pub record LikeFrame (r q : Frame Cell) : Type 0 where
  pub function : q.function ≡ r.function
  pub cells : LikeCells r.cells q.cells

abbrev pub LikeFrames : List (Frame Cell) → List (Frame Cell) → Type 0
LikeFrames [] [] = Unit {0}
LikeFrames [] (q ∷ k) = ⊥
LikeFrames (r ∷ l) [] = ⊥
LikeFrames (r ∷ l) (q ∷ k) = LikeFrame r q × LikeFrames l k

pub same-cells : (l : List Cell) → LikeCells l l
same-cells l = record { size = refl; each = λ i. inl refl }

pub same-frames : (l : List (Frame Cell)) → LikeFrames l l
same-frames [] = tt
same-frames (r ∷ l) = (record { function = refl; cells = same-cells r.cells }, same-frames l)

direct-on : {l k : List Cell} → LikeCells l k → (i : ℕ) → DirectCell (get_or l i undefined) → DirectCell (get_or k i undefined)
direct-on e i h = ⊎_elim (λ (p : _ ≡ _). rw p h) (λ d. d) (e.each i)

pub depth-on : (l k : List (Frame Cell)) → LikeFrames l k → depth_of_frames k ≡ depth_of_frames l
depth-on [] [] e = refl
depth-on [] (q ∷ k) e = absurd e
depth-on (r ∷ l) [] e = absurd e
depth-on (r ∷ l) (q ∷ k) e = omega (arith, e.0.cells.size, depth-on l k e.1)

look-on : (a : ℕ) (l k : List (Frame Cell)) → LikeFrames l k → DirectCell (look_frames undefined a l) → DirectCell (look_frames undefined a k)
look-on a [] [] e h = tt
look-on a [] (q ∷ k) e h = absurd e
look-on a (r ∷ l) [] e h = absurd e
look-on a (r ∷ l) (q ∷ k) e h = go (λ p. look-on a l k e.1 p) (order (depth_of_frames l) a)
  where
    go : (DirectCell (look_frames undefined a l) → DirectCell (look_frames undefined a k)) → (depth_of_frames l ≤ a) ⊎ (a < depth_of_frames l)
        → DirectCell (look_frames undefined a (q ∷ k))
    go more (inl p) =
        let d = depth-on l k e.1 in
        rw (look-here a undefined q k (omega arith), index_same r.cells q.cells l k a e.0.cells.size d)
        (direct-on e.0.cells (index_in r.cells l a) (rw (look-here a undefined r l p) at h))
    go more (inr p) =
        let d = depth-on l k e.1 in
        rw (look-below a undefined q k (omega arith)) (more (rw (look-below a undefined r l p) at h))

module _ (regular alternate : List ℕ) where
  like-variables : {r q : Frame Cell} → LikeFrame r q → variables regular alternate (function_word q) ≡ variables regular alternate (function_word r)
  like-variables e = ap (λ (f : ℕ). variables regular alternate (f * 2 ^ 16)) e.function

  variable-on : (a : ℕ) (l k : List (Frame Cell)) → LikeFrames l k → VariableIn regular alternate l a → VariableIn regular alternate k a
  variable-on a [] [] e h = h
  variable-on a [] (q ∷ k) e h = absurd e
  variable-on a (r ∷ l) [] e h = absurd e
  variable-on a (r ∷ l) (q ∷ k) e (inl h) =
      let d = depth-on l k e.1 in
      let n = e.0.cells.size in
      let v = like-variables e.0 in
      inl (omega (arith, h), omega (arith, h))
  variable-on a (r ∷ l) (q ∷ k) e (inr h) = inr (variable-on a l k e.1 h)

  -- two machines that have as many globals, where what is named and direct in the one is direct in the other
  module _ (m n : Machine Cell) (globals : length n.globals ≡ length m.globals) where
    pub names-on : (l k : List (Frame Cell)) → LikeFrames l k → (t : Target) → MayName regular alternate m l t → MayName regular alternate n k t
    names-on l k e (Global g) h = (h.0, omega (arith, h))
    names-on l k e (Local a) h = variable-on a.0 l k e h

    abbrev pub StayDirect : List (Frame Cell) → Type 0
    StayDirect l = (t : Target) → MayName regular alternate m l t → DirectCell (look undefined t m) → DirectCell (look undefined t n)

    pub allowed-on : (l k : List (Frame Cell)) → LikeFrames l k → StayDirect l → (c : Cell) → Allowed regular alternate m l c → Allowed regular alternate n k c
    allowed-on l k e d undefined h = tt
    allowed-on l k e d (indirect t) h = record { names = names-on l k e t h.names; direct = d t h.names h.direct }
    allowed-on l k e d (value shape ravel) h = tt
    allowed-on l k e d invalid h = h

    allowed-cells : (l k : List (Frame Cell)) → LikeFrames l k → StayDirect l → {x y : List Cell} → LikeCells x y
        → ((i : ℕ) → i < length x → Allowed regular alternate m l (get_or x i undefined)) → (i : ℕ) → i < length y → Allowed regular alternate n k (get_or y i undefined)
    allowed-cells l k e d {x} {y} c h i b =
        ⊎_elim (λ (p : get_or y i undefined ≡ get_or x i undefined). rw p (allowed-on l k e d (get_or x i undefined) (h i (omega (arith, c.size)))))
        (λ p. direct-allowed regular alternate n k (get_or y i undefined) p)
        (c.each i)

    frame_on : {r q : Frame Cell} {l k : List (Frame Cell)} → LikeFrame r q → LikeFrames l k → StayDirect l
        → LegalFrame regular alternate m r l → LegalFrame regular alternate n q k
    frame_on {r} {q} {l} {k} e es d g =
        let v = like-variables e in
        let a : arguments regular alternate (function_word q) ≡ arguments regular alternate (function_word r) = ap (λ (f : ℕ). arguments regular alternate (f * 2 ^ 16)) e.function in
        record {
          function = ap (λ (f : ℕ). known regular alternate (f * 2 ^ 16)) e.function ∙ g.function;
          cells = omega (arith, g.cells, e.cells.size);
          locals = λ i h. direct-on e.cells i (g.locals i (omega arith));
          others = allowed-cells l k es d e.cells g.others;
        }

    pub frames-on : {l : List (Frame Cell)} → LegalFrames regular alternate m l → (k : List (Frame Cell)) → LikeFrames l k → StayDirect l
        → LegalFrames regular alternate n k
    frames-on (bottom g s) [] e d = absurd e
    frames-on (bottom {r} g s) (q ∷ []) e d =
        let v = like-variables e.0 in
        bottom (frame_on e.0 tt (λ t h. d t (names_more regular alternate m r [] t h)) g) (omega (arith, e.0.cells.size))
    frames-on (bottom g s) (q ∷ p ∷ k) e d = absurd e.1
    frames-on (upon g rest) [] e d = absurd e
    frames-on (upon {r} {q = s} {older = l} g rest) (q ∷ k) e d =
        upon-on (frame_on e.0 e.1 (λ t h. d t (names_more regular alternate m r (s ∷ l) t h)) g)
        (frames-on rest k e.1 (λ t h. d t (names_more regular alternate m r (s ∷ l) t h)))

-- ---- machines

pub record Like (m n : Machine Cell) : Type 0 where
  pub frames : LikeFrames m.frames n.frames
  pub globals : LikeCells m.globals n.globals

like-look : {m n : Machine Cell} → Like m n → (t : Target) → DirectCell (look undefined t m) → DirectCell (look undefined t n)
like-look {m} {n} e (Global g) h =
    rw (global-same m.globals n.globals g.0 e.globals.size) (direct-on e.globals (global_index m.globals g.0) h)
like-look {m} {n} e (Local a) h = look-on a.0 m.frames n.frames e.frames h

-- A machine alike is legal where its temporaries are allowed in the one before.
pub like-legal : {regular alternate : List ℕ} {m n : Machine Cell} → Legal regular alternate m → Like m n
    → ((i : ℕ) → i < length n.temporaries → Allowed regular alternate m m.frames (get_or n.temporaries i undefined)) → Legal regular alternate n
like-legal {regular} {alternate} {m} {n} g e h =
    let d : StayDirect regular alternate m n e.globals.size m.frames = λ t p. like-look e t in
    record {
      frames = frames-on regular alternate m n e.globals.size g.frames n.frames e.frames d;
      globals = λ i b. direct-on e.globals i (g.globals i (omega (arith, e.globals.size)));
      temporaries = λ i b. allowed-on regular alternate m n e.globals.size m.frames n.frames e.frames d (get_or n.temporaries i undefined) (h i b);
    }
