-- What is seen of the words is what is seen of the view.
use Prim.Native.Nat.{ℕ, suc, ◌+◌, ◌-◌, ◌<◌, ◌≤◌}
use mathlib.Core.Path.{◌≡◌, refl, sym, ◌∙◌, ap}
use mathlib.Core.Bool.{Bool, true, false, cond, ◌||◌}
use mathlib.Core.List.{List, [], ◌∷◌}
use mathlib.Core.Logic.{◌⊎◌, inl, inr, ⊎_elim}
use native.Mathlib.Omega.{arith}
use lib.ListN.{get_or, length, length-map, get_or-eq_default}
use lib.Dec.{ltb, leb}
use borrow.Author.Tests.{ltb-false, leb-false, lt-ltb, le-ltb, le-leb, lt-leb}
use Rattle.descriptor.specs.declared.Target.{Target}
use Rattle.descriptor.specs.declared.Target.TheVariants.{Local, Global}
use Rattle.descriptor.specs.Kinds.{segment, stack}
use Rattle.segment.specs.State.{sbase, ltop, lbase, flags, iorg, blockptr}
use Rattle.segment.specs.Stack.{last_lbase_at, code_word_at}
use Rattle.segment.specs.Cells.{Cell, undefined, indirect, value, invalid, cell}
use Rattle.segment.specs.Machine.{Frame, map_frames, depth_of_frames, depth}
use Rattle.segment.specs.View.{frames_from, words, view}
use Rattle.segment.proofs.Runs.{downward-length, part_length, depth-map}
use Rattle.manual.specs.OrTrap.{OrTrap, gives, trap, stop_if}
use Rattle.manual.specs.Effects.{current_cells, look_frames, look, index_in, InFrames}
use Rattle.manual.specs.Seen.{Variable, at, followed, follow, local_at, global_at, no_older, seen_of}
use Rattle.manual.proofs.Machines.{map-current}
use Rattle.manual.proofs.Cellwise.{index_in_lem, look-here}
use Rattle.manual.proofs.Tests.{none-holds}
use Rattle.storage_theorems.proofs.Counts.{order}
use Rattle.effects.specs.Sources.{held_at, operand_at}
use Rattle.effects.specs.Seen.{read, temporaries, seen}
use Rattle.effects.specs.Sound.{Chain, bottom, upon, Sound}
use Rattle.effects.specs.Fits.{Addressable}
use Rattle.effects.specs.Alike.{seen_by, HasFrame, Resolved}
use Rattle.frame_theorems.proofs.Frames.{frame, frames-bottom, frames-next, depth_is}
use Rattle.effects_theorems.proofs.Sound.{bounds}
use Rattle.effects_theorems.proofs.Variables.{variable-owner, look-view, operand-owner, operand-view}
use Rattle.effects_theorems.proofs.Reading.{read_cell}

-- the highest cells of the current frame are its variables
in-current : {A : Type 0} (l : List (Frame A)) (base v : ℕ) → depth_of_frames l ≡ base + 2 → 1 ≤ v → v ≤ length (current_cells l) → InFrames (base - v) l
in-current [] base v d h k = absurd (omega arith)
in-current (r ∷ l) base v d h k = inl (omega arith, omega arith)

look-highest : {A : Type 0} (none : A) (l : List (Frame A)) (base : ℕ) → depth_of_frames l ≡ base + 2 → 1 ≤ length (current_cells l)
    → look_frames none (base - 1) l ≡ get_or (current_cells l) 0 none
look-highest none [] base d h = absurd (omega arith)
look-highest none (r ∷ l) base d h =
    let e : index_in r.cells l (base - 1) ≡ 0 = index_in_lem r.cells l (base - 1) (omega arith) ∙ omega arith in
    look-here (base - 1) none r l (omega arith) ∙ rw e

no-older : {A : Type 0} (f : ℕ → A) (r : Frame ℕ) (l : List (Frame ℕ)) → 0 < depth_of_frames l → no_older (map_frames f (r ∷ l)) ≡ false
no-older f r [] h = absurd (omega arith)
no-older f r (q ∷ l) h = refl

stop-same : {A : Type 0} (b : Bool) (class number : ℕ) (x y : OrTrap A) → (b ≡ false → x ≡ y) → stop_if b class number x ≡ stop_if b class number y
stop-same true class number x y h = refl
stop-same false class number x y h = h refl

-- one indirection leads to the same cell
follow-cell : (read other : Target → Cell) (t : Target) (c : Cell) → ((u : Target) → c ≡ indirect u → read u ≡ other u) → follow read t c ≡ follow other t c
follow-cell read other t undefined h = refl
follow-cell read other t (indirect u) h = ap (followed u) (h u refl)
follow-cell read other t (value shape ravel) h = refl
follow-cell read other t invalid h = refl

follow-same : (read other : Target → Cell) (t : Target) → read t ≡ other t → ((u : Target) → read t ≡ indirect u → read u ≡ other u)
    → follow read t (read t) ≡ follow other t (other t)
follow-same read other t e h = follow-cell read other t (read t) h ∙ ap (follow other t) e

-- where an indirection leads
trapped : {A : Type 0} {x : Variable} {class number : ℕ} → trap class number ≡ gives x → A
trapped e = let z : ◌≡◌ {A = ℕ} 0 1 = cc in absurd (omega arith)

followed-is : (u : Target) (c : Cell) (x : Variable) → followed u c ≡ gives x → x ≡ at u c
followed-is u undefined x e = cc
followed-is u (indirect w) x e = trapped e
followed-is u (value shape ravel) x e = cc
followed-is u invalid x e = cc

follow-is : (read : Target → Cell) (t : Target) (c : Cell) (x : Variable) → follow read t c ≡ gives x
    → ((followed t c ≡ gives x) ⊎ ((u : Target) × (c ≡ indirect u) × (followed u (read u) ≡ gives x)))
follow-is read t undefined x e = inl e
follow-is read t (indirect u) x e = inr (u, refl, e)
follow-is read t (value shape ravel) x e = inl e
follow-is read t invalid x e = inl e

stop-gives : (b : Bool) (class number : ℕ) (p : OrTrap Variable) (x : Variable) → stop_if b class number p ≡ gives x → (b ≡ false) × (p ≡ gives x)
stop-gives true class number p x e = trapped e
stop-gives false class number p x e = (refl, e)

module _ (s : List ℕ) (g : Sound s) where
  abbrev held : Target → Cell
  held t = read s (held_at s t)

  abbrev other : Target → Cell
  other t = look undefined t (view s)

  held-cell : (t : Target) → Addressable s t → held t ≡ cell s (held_at s t)
  held-cell t at = read_cell s g (held_at s t) (variable-owner s g t at)

  held-view : (t : Target) → Addressable s t → held t ≡ other t
  held-view t at = held-cell t at ∙ look-view s g t at

  depth-frames : depth_of_frames (words s).frames ≡ lbase s + 2
  unfolding words
  depth-frames = depth_is g.chain (suc (lbase s)) (omega arith)

  depth-view : depth_of_frames (view s).frames ≡ lbase s + 2
  unfolding view
  depth-view = depth-map (cell s) (words s).frames ∙ depth-frames

  base-view : depth_of_frames (view s).frames - 2 ≡ lbase s
  base-view = omega (arith, depth-view)

  pub long-temporaries : length (view s).temporaries ≡ temporaries s
  unfolding view words
  long-temporaries = length-map (words s).temporaries (cell s) ∙ downward-length s (sbase s + lbase s + 2) (ltop s - (lbase s + 1))

  long-globals : 8 + length (view s).globals ≡ blockptr s
  unfolding view words
  long-globals = omega (arith, length-map (words s).globals (cell s), part_length s 8 (blockptr s - 8), bounds g)

  room-same : length s - (sbase s + ltop s + 1) ≡ length s - sbase s - depth (view s)
  room-same = omega (arith, long-temporaries, depth-view, bounds g)

  operand_same : (i : ℕ) → cond (ltb i (temporaries s)) (read s (operand_at s i)) undefined ≡ get_or (view s).temporaries i undefined
  operand_same i = ⊎_elim out inside (order (temporaries s) i)
    where
      out : temporaries s ≤ i → cond (ltb i (temporaries s)) (read s (operand_at s i)) undefined ≡ get_or (view s).temporaries i undefined
      out h =
          let l : length (view s).temporaries ≤ i = omega (arith, h, long-temporaries) in
          rw (le-ltb i (temporaries s) h) (sym (get_or-eq_default (view s).temporaries undefined l))

      inside : i < temporaries s → cond (ltb i (temporaries s)) (read s (operand_at s i)) undefined ≡ get_or (view s).temporaries i undefined
      inside h = rw (lt-ltb i (temporaries s) h) (read_cell s g (operand_at s i) (operand-owner s i h) ∙ operand-view s i h)

  flags-same : (view s).flags ≡ flags s
  unfolding view words
  flags-same = refl

  bottom-same : leb (lbase s) (last_lbase_at s (lbase s)) ≡ no_older (view s).frames
  unfolding view words
  bottom-same = go g.chain
    where
      go : Chain s (lbase s) → leb (lbase s) (last_lbase_at s (lbase s)) ≡ no_older (map_frames (cell s) (frames_from (suc (lbase s)) s (lbase s)))
      go (bottom q) =
          rw (le-leb (lbase s) (last_lbase_at s (lbase s)) (omega arith), frames-bottom (lbase s) s (lbase s) _ _ _ refl refl refl (omega arith))
      go (upon q c) =
          rw (lt-leb (lbase s) (last_lbase_at s (lbase s)) (omega arith), frames-next (lbase s) s (lbase s) _ _ _ refl refl refl (omega arith))
          (sym
          (no-older (cell s) (frame s (code_word_at s (lbase s)) (sbase s) (last_lbase_at s (lbase s) + 2) (lbase s))
          (frames_from (lbase s) s (last_lbase_at s (lbase s))) (omega (arith, depth_is c (lbase s) (omega arith)))))

  pub long-current : length (current_cells (view s).frames) ≡ length (current_cells (words s).frames)
  unfolding view
  long-current = ap length (sym (map-current (cell s) (words s).frames)) ∙ length-map (current_cells (words s).frames) (cell s)

  module _ (variables : ℕ) (result : Bool) (runs : HasFrame s variables result) where
    follows : (t : Target) → Addressable s t → follow held t (held t) ≡ follow other t (other t)
    follows t at = follow-same held other t (held-view t at) (λ u e. held-view u (runs.targets t u at (sym (held-cell t at) ∙ e)))

    local-variable : (v : ℕ) → (ltb v 1 || ltb variables v) ≡ false → Addressable s (Local (stack (lbase s - v)))
    local-variable v h =
        let n = none-holds (ltb v 1) (ltb variables v) h in
        in-current (words s).frames (lbase s) v depth-frames (ltb-false v 1 n.0) (omega (arith, ltb-false variables v n.1, runs.cells))

    local_same : (v : ℕ) → local_at held (lbase s) variables v ≡ local_at other (depth_of_frames (view s).frames - 2) variables v
    local_same v =
        rw base-view
        (stop-same (ltb v 1 || ltb variables v) 3 2 _ _
        (λ h. follows (Local (stack (lbase s - v))) (local-variable v h)))

    global-variable : (q : ℕ) → (ltb q 8 || leb (blockptr s) q) ≡ false → Addressable s (Global (segment q))
    unfolding words
    global-variable q h =
        let n = none-holds (ltb q 8) (leb (blockptr s) q) h in
        (ltb-false q 8 n.0, omega (arith, leb-false (blockptr s) q n.1, part_length s 8 (blockptr s - 8), bounds g))

    global-same : (q : ℕ) → global_at held (blockptr s) q ≡ global_at other (8 + length (view s).globals) q
    global-same q =
        rw long-globals
        (stop-same (ltb q 8 || leb (blockptr s) q) 3 3 _ _
        (λ h. follows (Global (segment q)) (global-variable q h)))

    -- an address that is not trapped leads to a variable
    resolves : (t : Target) (x : Variable) → Addressable s t → follow held t (held t) ≡ gives x → Resolved s x
    resolves t x at e = ⊎_elim (leads t at) (λ q. leads q.0 (runs.targets t q.0 at (sym (held-cell t at) ∙ q.1)) q.2) (follow-is held t (held t) x e)
      where
        leads : (u : Target) → Addressable s u → followed u (held u) ≡ gives x → Resolved s x
        leads u k q =
            let r = followed-is u (held u) x q in
            let p : x.place ≡ u = ap (λ (y : Variable). y.place) r in
            let c : x.held ≡ held u = ap (λ (y : Variable). y.held) r in
            record {
              there = rw p k;
              holds = rw p (c ∙ held-cell u k);
              direct = λ v z. trapped (ap (followed u) (sym z ∙ c) ∙ q);
            }

    pub local-theorem : (v : ℕ) (x : Variable) → (seen s).local variables v ≡ gives x → Resolved s x
    unfolding seen
    local-theorem v x e =
        let t = Local (stack (lbase s - v)) in
        let q = stop-gives (ltb v 1 || ltb variables v) 3 2 (follow held t (held t)) x e in
        resolves t x (local-variable v q.0) q.1

    pub global-theorem : (q : ℕ) (x : Variable) → (seen s).global q ≡ gives x → Resolved s x
    unfolding seen
    global-theorem q x e =
        let t = Global (segment q) in
        let r = stop-gives (ltb q 8 || leb (blockptr s) q) 3 3 (follow held t (held t)) x e in
        resolves t x (global-variable q r.0) r.1

    result-same : (has : Bool) → has ≡ result
        → cond has (read s (get_or s (sbase s + lbase s - 1) 0)) undefined ≡ cond has (get_or (current_cells (view s).frames) 0 undefined) undefined
    result-same false e = refl
    result-same true e =
        let n : 1 ≤ length (current_cells (words s).frames) = omega (arith, runs.some (sym e), runs.cells) in
        let b : 1 ≤ lbase s = omega (arith, depth-frames, current-depth (words s).frames n) in
        let a : sbase s + lbase s - 1 ≡ sbase s + (lbase s - 1) = omega arith in
        rw a
        (held-view (Local (stack (lbase s - 1))) (in-current (words s).frames (lbase s) 1 depth-frames (omega arith) n)
        ∙ look-highest undefined (view s).frames (lbase s) depth-view (omega (arith, n, long-current)))
      where
        current-depth : (l : List (Frame ℕ)) → 1 ≤ length (current_cells l) → 3 ≤ depth_of_frames l
        current-depth [] h = absurd (omega arith)
        current-depth (r ∷ l) h = omega arith

    pub seen-theorem : seen_by variables result (seen s) ≡ seen_by variables result (seen_of (length s - sbase s) (view s))
    unfolding seen seen_of
    seen-theorem =
        let e : iorg (flags s) ≡ iorg (view s).flags = ap iorg (sym flags-same) in
        λ j. record {
          origin = e j;
          room = room-same j;
          count = sym long-temporaries j;
          operand = λ i. operand_same i j;
          local = λ n v. local_same v j;
          global = λ q. global-same q j;
          bottom = bottom-same j;
          result = λ has. result-same result refl j;
        }
