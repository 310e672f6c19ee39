-- A variable's cell in a machine of cells: looked at, written, and written twice. Whatever is no variable is looked at as none, and
-- nothing is put there.
use Prim.Native.Nat.{ℕ, zero, suc, ◌+◌, ◌-◌, ◌<◌, ◌≤◌}
use mathlib.Core.Path.{◌≡◌, refl, ◌∙◌, ap}
use mathlib.Core.List.{List, [], ◌∷◌, map}
use mathlib.Core.Logic.{◌↔◌, ◌≢◌, ◌⊎◌, inl, inr, ⊎_elim}
use native.Mathlib.Omega.{arith}
use lib.ListN.{get_or, set, length, length-set, length-map, get_or-map}
use lib.Seq.{get_or-set_same, set-set}
use borrow.Author.Tests.{lt-ltb, le-ltb, le-leb, lt-leb}
use Rattle.descriptor.specs.declared.Target.{Target}
use Rattle.descriptor.specs.declared.Target.TheVariants.{Local, Global}
use Rattle.descriptor.specs.Kinds.{segment, stack}
use Rattle.descriptor.proofs.Truth.{by_le}
use Rattle.segment.specs.Machine.{Frame, Machine, map_frames, map_machine, depth_of_frames}
use Rattle.segment.proofs.Runs.{depth-map}
use Rattle.manual.specs.Effects.{index_in, global_index, look_frames, look, put_frames, put, InFrames, AddressableIn}
use Rattle.manual.proofs.Machines.{map-set}

-- ---- where a cell stands

module _ {A : Type 0} (cells : List A) (l : List (Frame A)) (a : ℕ) where
  pub index_in_lem : a < depth_of_frames l + length cells → index_in cells l a ≡ depth_of_frames l + length cells - 1 - a
  index_in_lem h = rw (lt-ltb a (depth_of_frames l + length cells) h)

  pub index-off : depth_of_frames l + length cells ≤ a → index_in cells l a ≡ length cells
  index-off h = rw (le-ltb a (depth_of_frames l + length cells) h)

-- It goes by how many cells there are.
pub index_same : {A B : Type 0} (x : List A) (y : List B) (l : List (Frame A)) (k : List (Frame B)) (a : ℕ) → length y ≡ length x
    → depth_of_frames k ≡ depth_of_frames l → index_in y k a ≡ index_in x l a
index_same x y l k a n d = rw (n, d)

pub global-in : {A : Type 0} (l : List A) (g : ℕ) → 8 ≤ g → global_index l g ≡ g - 8
global-in l g h = rw (le-leb 8 g h)

pub global-off : {A : Type 0} (l : List A) (g : ℕ) → g < 8 → global_index l g ≡ length l
global-off l g h = rw (lt-leb 8 g h)

pub global-same : {A B : Type 0} (x : List A) (y : List B) (g : ℕ) → length y ≡ length x → global_index y g ≡ global_index x g
global-same x y g n = rw n

-- Two addresses of one cell: it is none.
index-apart : {A : Type 0} (cells : List A) (l : List (Frame A)) (a b : ℕ) → b ≢ a → index_in cells l b ≡ index_in cells l a
    → length cells ≤ index_in cells l b
index-apart cells l a b n e =
    by_le (depth_of_frames l + length cells) b (λ q. rw (index-off cells l b q) (omega arith))
    (λ q. by_le (depth_of_frames l + length cells) a (λ p. rw (e, index-off cells l a p) (omega arith))
    (λ p. absurd (omega (arith, n, e ∙ index_in_lem cells l a p, index_in_lem cells l b q))))

global-apart : {A : Type 0} (l : List A) (g h : ℕ) → h ≢ g → global_index l h ≡ global_index l g → length l ≤ global_index l h
global-apart l g h n e =
    by_le 8 h (λ q. by_le 8 g (λ p. absurd (omega (arith, n, e ∙ global-in l g p, global-in l h q))) (λ p. rw (e, global-off l g p) (omega arith)))
    (λ q. rw (global-off l h q) (omega arith))

-- A cell is as before where another is written, or where there is none.
get_d_set : {A : Type 0} (l : List A) (i j : ℕ) (c none : A) → (i ≡ j → length l ≤ i) → get_or (set l j c) i none ≡ get_or l i none
get_d_set [] i zero c none h = refl
get_d_set [] i (suc j) c none h = refl
get_d_set (x ∷ l) zero zero c none h = absurd (omega (arith, h refl))
get_d_set (x ∷ l) zero (suc j) c none h = refl
get_d_set (x ∷ l) (suc i) zero c none h = refl
get_d_set (x ∷ l) (suc i) (suc j) c none h = get_d_set l i j c none (λ e. omega (arith, h (ap suc e)))

-- ---- the two ways of a frame

abbrev pub written : {A B : Type 0} → Frame A → List B → Frame B
written r cells = record { function = r.function; pctr = r.pctr; cells = cells }

module _ {A : Type 0} (a : ℕ) (c : A) (r : Frame A) (l : List (Frame A)) where
  pub put-here : depth_of_frames l ≤ a → put_frames a c (r ∷ l) ≡ written r (set r.cells (index_in r.cells l a) c) ∷ l
  put-here h = rw (le-leb (depth_of_frames l) a h)

  pub put-below : a < depth_of_frames l → put_frames a c (r ∷ l) ≡ r ∷ put_frames a c l
  put-below h = rw (lt-leb (depth_of_frames l) a h)

  pub look-here : depth_of_frames l ≤ a → look_frames c a (r ∷ l) ≡ get_or r.cells (index_in r.cells l a) c
  look-here h = rw (le-leb (depth_of_frames l) a h)

  pub look-below : a < depth_of_frames l → look_frames c a (r ∷ l) ≡ look_frames c a l
  look-below h = rw (lt-leb (depth_of_frames l) a h)

pub in-depth : {A : Type 0} (a : ℕ) (l : List (Frame A)) → InFrames a l → a < depth_of_frames l
in-depth a [] h = absurd h
in-depth a (r ∷ l) (inl h) = omega (arith, h)
in-depth a (r ∷ l) (inr h) = omega (arith, in-depth a l h)

-- A variable stands in the first frame or in an older one.
pub in-cases : {A : Type 0} (a : ℕ) (r : Frame A) (l : List (Frame A)) → InFrames a (r ∷ l)
    → ((depth_of_frames l ≤ a) × (index_in r.cells l a < length r.cells)) ⊎ ((a < depth_of_frames l) × InFrames a l)
in-cases a r l (inl h) = inl (h.0, rw (index_in_lem r.cells l a h.1) (omega (arith, h)))
in-cases a r l (inr h) = inr (in-depth a l h, h)

-- ---- the machine seen by a function

module _ {A B : Type 0} (f : A → B) where
  map-put_frames : (a : ℕ) (c : A) (l : List (Frame A)) → map_frames f (put_frames a c l) ≡ put_frames a (f c) (map_frames f l)
  map-put_frames a c [] = refl
  map-put_frames a c (r ∷ l) =
      by_le (depth_of_frames l) a
      (λ (h : depth_of_frames l ≤ a).
      rw (
        put-here a c r l h,
        put-here a (f c) (written r (map f r.cells)) (map_frames f l) (omega (arith, depth-map f l)),
        index_same r.cells (map f r.cells) l (map_frames f l) a (length-map r.cells f) (depth-map f l),
        map-set f r.cells (index_in r.cells l a) c,
      ))
      (λ (h : a < depth_of_frames l).
      rw (put-below a c r l h, put-below a (f c) (written r (map f r.cells)) (map_frames f l) (omega (arith, depth-map f l)), map-put_frames a c l))

  pub put_map : (t : Target) (c : A) (m : Machine A) → map_machine f (put t c m) ≡ put t (f c) (map_machine f m)
  put_map (Global g) c m =
      rw (map-set f m.globals (global_index m.globals g.0) c, global-same m.globals (map f m.globals) g.0 (length-map m.globals f))
  put_map (Local a) c m = rw (map-put_frames a.0 c m.frames)

  map-look_frames : (none : A) (a : ℕ) (l : List (Frame A)) → look_frames (f none) a (map_frames f l) ≡ f (look_frames none a l)
  map-look_frames none a [] = refl
  map-look_frames none a (r ∷ l) =
      by_le (depth_of_frames l) a
      (λ (h : depth_of_frames l ≤ a).
      rw (
        look-here a none r l h,
        look-here a (f none) (written r (map f r.cells)) (map_frames f l) (omega (arith, depth-map f l)),
        index_same r.cells (map f r.cells) l (map_frames f l) a (length-map r.cells f) (depth-map f l),
      )
      (get_or-map f r.cells (index_in r.cells l a) none))
      (λ (h : a < depth_of_frames l).
      rw (look-below a none r l h, look-below a (f none) (written r (map f r.cells)) (map_frames f l) (omega (arith, depth-map f l)))
      (map-look_frames none a l))

  pub map-look : (none : A) (t : Target) (m : Machine A) → look (f none) t (map_machine f m) ≡ f (look none t m)
  map-look none (Global g) m =
      rw (global-same m.globals (map f m.globals) g.0 (length-map m.globals f))
      (get_or-map f m.globals (global_index m.globals g.0) none)
  map-look none (Local a) m = map-look_frames none a.0 m.frames

-- ---- written, and then looked at or written again

module _ {A : Type 0} where
  depth-put : (a : ℕ) (c : A) (l : List (Frame A)) → depth_of_frames (put_frames a c l) ≡ depth_of_frames l
  depth-put a c [] = refl
  depth-put a c (r ∷ l) =
      by_le (depth_of_frames l) a (λ (h : depth_of_frames l ≤ a). rw (put-here a c r l h) (omega (arith, length-set r.cells (index_in r.cells l a) c)))
      (λ (h : a < depth_of_frames l). rw (put-below a c r l h) (omega (arith, depth-put a c l)))

  -- the first frame's cells with one written
  abbrev after : ℕ → A → Frame A → List (Frame A) → Frame A
  after a c r l = written r (set r.cells (index_in r.cells l a) c)

  index-after : (a b : ℕ) (c : A) (r : Frame A) (l : List (Frame A)) → index_in (after a c r l).cells l b ≡ index_in r.cells l b
  index-after a b c r l = index_same r.cells (after a c r l).cells l l b (length-set r.cells (index_in r.cells l a) c) refl

  global-after : (g h : ℕ) (c : A) (l : List A) → global_index (set l (global_index l g) c) h ≡ global_index l h
  global-after g h c l = global-same l (set l (global_index l g) c) h (length-set l (global_index l g) c)

  twice-frames : (a : ℕ) (b c : A) (l : List (Frame A)) → put_frames a c (put_frames a b l) ≡ put_frames a c l
  twice-frames a b c [] = refl
  twice-frames a b c (r ∷ l) =
      by_le (depth_of_frames l) a
      (λ (h : depth_of_frames l ≤ a). rw (put-here a b r l h, put-here a c (after a b r l) l h, index-after a a b r l, set-set, put-here a c r l h))
      (λ (h : a < depth_of_frames l).
      rw (put-below a b r l h, put-below a c r (put_frames a b l) (omega (arith, depth-put a b l)), twice-frames a b c l, put-below a c r l h))

  pub put-twice : (t : Target) (b c : A) (m : Machine A) → put t c (put t b m) ≡ put t c m
  put-twice (Global g) b c m = rw (global-after g.0 g.0 b m.globals, set-set)
  put-twice (Local a) b c m = rw (twice-frames a.0 b c m.frames)

  module _ (none c : A) where
    look-put_frames : (a : ℕ) (l : List (Frame A)) → InFrames a l → look_frames none a (put_frames a c l) ≡ c
    look-put_frames a [] h = absurd h
    look-put_frames a (r ∷ l) h =
        ⊎_elim
        (λ (k : (depth_of_frames l ≤ a) × (index_in r.cells l a < length r.cells)).
        let n : index_in r.cells l a < length r.cells = k.1 in
        rw (put-here a c r l k.0, look-here a none (after a c r l) l k.0, index-after a a c r l, get_or-set_same))
        (λ (k : (a < depth_of_frames l) × InFrames a l).
        rw (put-below a c r l k.0, look-below a none r (put_frames a c l) (omega (arith, depth-put a c l, k.0))) (look-put_frames a l k.1))
        (in-cases a r l h)

    pub look-put : (t : Target) (m : Machine A) → AddressableIn t m → look none t (put t c m) ≡ c
    look-put (Global g) m h =
        let l : global_index m.globals g.0 < length m.globals = rw (global-in m.globals g.0 h.0) (omega (arith, h)) in
        rw (global-after g.0 g.0 c m.globals, get_or-set_same)
    look-put (Local a) m h = look-put_frames a.0 m.frames h

    -- another is looked at as before
    other-put_frames : (a b : ℕ) (l : List (Frame A)) → b ≢ a → look_frames none b (put_frames a c l) ≡ look_frames none b l
    other-put_frames a b [] n = refl
    other-put_frames a b (r ∷ l) n =
        let d = depth-put a c l in
        by_le (depth_of_frames l) a
        (λ (p : depth_of_frames l ≤ a).
        by_le (depth_of_frames l) b
        (λ q. rw (put-here a c r l p, look-here b none (after a c r l) l q, index-after a b c r l, look-here b none r l q)
        (get_d_set r.cells (index_in r.cells l b) (index_in r.cells l a) c none (index-apart r.cells l a b n)))
        (λ q. rw (put-here a c r l p, look-below b none (after a c r l) l q, look-below b none r l q)))
        (λ (p : a < depth_of_frames l).
        by_le (depth_of_frames l) b
        (λ q. rw (
          put-below a c r l p,
          look-here b none r (put_frames a c l) (omega arith),
          look-here b none r l q,
          index_same r.cells r.cells l (put_frames a c l) b refl d,
        ))
        (λ q. rw (put-below a c r l p, look-below b none r (put_frames a c l) (omega arith), look-below b none r l q, other-put_frames a b l n)))

    pub look-other : (t u : Target) (m : Machine A) → u ≢ t → look none u (put t c m) ≡ look none u m
    look-other (Global g) (Global h) m n =
        rw (global-after g.0 h.0 c m.globals)
        (get_d_set m.globals (global_index m.globals h.0) (global_index m.globals g.0) c none
        (global-apart m.globals g.0 h.0 (λ e. n (ap (λ (i : ℕ). Global (segment i)) e))))
    look-other (Global g) (Local b) m n = refl
    look-other (Local a) (Global h) m n = refl
    look-other (Local a) (Local b) m n = other-put_frames a.0 b.0 m.frames (λ e. n (ap (λ (i : ℕ). Local (stack i)) e))

-- ---- the same variables

-- frames with as many cells have the same
in-same : {A B : Type 0} (a : ℕ) (r : Frame A) (q : Frame B) (l : List (Frame A)) (k : List (Frame B)) → length q.cells ≡ length r.cells
    → depth_of_frames k ≡ depth_of_frames l → InFrames a l ↔ InFrames a k → InFrames a (r ∷ l) ↔ InFrames a (q ∷ k)
in-same a r q l k n d more = (
  λ h. ⊎_elim (λ x. inl (omega (arith, x, d), omega (arith, x, n, d))) (λ x. inr (more.0 x)) h,
  λ h. ⊎_elim (λ x. inl (omega (arith, x, d), omega (arith, x, n, d))) (λ x. inr (more.1 x)) h,
)

-- after a store
in-put_frames : {A : Type 0} (c : A) (a b : ℕ) (l : List (Frame A)) → InFrames b l ↔ InFrames b (put_frames a c l)
in-put_frames c a b [] = (λ h. h, λ h. h)
in-put_frames c a b (r ∷ l) =
    by_le (depth_of_frames l) a
    (λ (p : depth_of_frames l ≤ a). rw (put-here a c r l p) (in-same b r (after a c r l) l l (length-set r.cells (index_in r.cells l a) c) refl (λ h. h, λ h. h)))
    (λ (p : a < depth_of_frames l). rw (put-below a c r l p) (in-same b r r l (put_frames a c l) refl (depth-put a c l) (in-put_frames c a b l)))

pub in-put : {A : Type 0} (c : A) (t u : Target) (m : Machine A) → AddressableIn u m ↔ AddressableIn u (put t c m)
in-put c (Global g) (Global h) m = rw (length-set m.globals (global_index m.globals g.0) c) (λ k. k, λ k. k)
in-put c (Global g) (Local b) m = (λ k. k, λ k. k)
in-put c (Local a) (Global h) m = (λ k. k, λ k. k)
in-put c (Local a) (Local b) m = in-put_frames c a.0 b.0 m.frames

-- by whatever function the machine is seen
in-map_frames : {A B : Type 0} (f : A → B) (a : ℕ) (l : List (Frame A)) → InFrames a l ↔ InFrames a (map_frames f l)
in-map_frames f a [] = (λ h. h, λ h. h)
in-map_frames f a (r ∷ l) = in-same a r (written r (map f r.cells)) l (map_frames f l) (length-map r.cells f) (depth-map f l) (in-map_frames f a l)

pub in_map : {A B : Type 0} (f : A → B) (t : Target) (m : Machine A) → AddressableIn t m ↔ AddressableIn t (map_machine f m)
in_map f (Global g) m = rw (length-map m.globals f) (λ k. k, λ k. k)
in_map f (Local a) m = in-map_frames f a.0 m.frames
