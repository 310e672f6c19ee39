-- Each effect keeps a machine legal, where what it pushes is allowed, what it stores is direct, and the function that it enters is known.
use Prim.Native.Nat.{ℕ, zero, suc, ◌+◌, ◌*◌, ◌/◌, ◌%◌, ◌^◌, ◌≤◌, ◌<◌}
use mathlib.Core.Path.{◌≡◌, refl}
use mathlib.Core.Bool.{Bool, true, false, true≢false}
use mathlib.Core.List.{List, [], ◌∷◌, ◌++◌}
use native.Mathlib.Omega.{arith}
use lib.ListN.{get_or, length, drop, replicate, length-append, length-replicate}
use lib.Seq.{get_or-drop}
use Rattle.descriptor.specs.declared.Target.{Target}
use Rattle.descriptor.specs.declared.Target.TheVariants.{Local, Global}
use Rattle.segment.specs.Cells.{Cell, undefined}
use Rattle.segment.specs.Machine.{Frame, Machine}
use Rattle.manual.specs.Effects.{put, with_temporaries, replace, discard, swapped, swap, enter, current_cells, older, push_if, leave, jump_frames, jump, with_origin}
use Rattle.manual.specs.Seen.{no_older}
use Rattle.acceptance.specs.Frames.{known, arguments, variables}
use Rattle.legality.specs.Legal.{DirectCell, Allowed, LegalFrame, LegalFrames, bottom, upon, Legal}
use Rattle.manual.proofs.Performed.{enter-look, leave-look}
use Rattle.legality.proofs.Legal.{Every, every, upon-on, names_in}
use Rattle.legality.proofs.Alike.{LikeFrames, same-cells, same-frames, StayDirect, frames-on, allowed-on, Like, like-legal}
use Rattle.legality.proofs.Stored.{put-like}

-- ---- lists of cells

module _ (P : Cell → Type 0) where
  every-cons : (c : Cell) (l : List Cell) → P c → Every P l → Every P (c ∷ l)
  every-cons c l p h zero = p
  every-cons c l p h (suc i) = h i

  every_drop : (n : ℕ) (l : List Cell) → Every P l → Every P (drop n l)
  every_drop n l h i = rw (get_or-drop n l i undefined) (h (n + i))

  every-swapped : (l : List Cell) → Every P l → Every P (swapped l)
  every-swapped [] h = h
  every-swapped (c ∷ []) h = h
  every-swapped (c ∷ d ∷ l) h = every-cons d (c ∷ l) (h 1) (every-cons c l (h 0) (λ i. h (suc (suc i))))

  every-run : (n : ℕ) (l : List Cell) → P undefined → Every P l → Every P (replicate n undefined ++ l)
  every-run zero l p h = h
  every-run (suc n) l p h = every-cons undefined (replicate n undefined ++ l) p (every-run n l p h)

  every-push : (result : Bool) (c : Cell) (l : List Cell) → P c → Every P l → Every P (push_if result c l)
  every-push true c l p h = every-cons c l p h
  every-push false c l p h = h

new-local : (n : ℕ) (l : List Cell) (i : ℕ) → i < n → DirectCell (get_or (replicate n undefined ++ l) i undefined)
new-local zero l i b = absurd (omega arith)
new-local (suc n) l zero b = tt
new-local (suc n) l (suc i) b = new-local n l i (omega arith)

-- ---- each effect

jump-like : (place : ℕ) (m : Machine Cell) → Like m (jump place m)
jump-like place m = record { frames = jumped m.frames; globals = same-cells m.globals }
  where
    jumped : (l : List (Frame Cell)) → LikeFrames l (jump_frames place l)
    jumped [] = tt
    jumped (r ∷ l) = (record { function = refl; cells = same-cells r.cells }, same-frames l)

origin-like : (v : ℕ) (m : Machine Cell) → Like m (with_origin v m)
origin-like v m = record { frames = same-frames m.frames; globals = same-cells m.globals }

with-like : (ts : List Cell) (m : Machine Cell) → Like m (with_temporaries ts m)
with-like ts m = record { frames = same-frames m.frames; globals = same-cells m.globals }

abbrev entered : ℕ → ℕ → Machine Cell → Frame Cell
entered n f m = record { function = f / 2 ^ 16; pctr = f % 2 ^ 16; cells = replicate n undefined ++ m.temporaries }

-- The function of a new frame is known, and its arguments stand on the stack.
pub record CanEnter (regular alternate : List ℕ) (n f : ℕ) (m : Machine Cell) : Type 0 where
  pub function : known regular alternate (f / 2 ^ 16 * 2 ^ 16) ≡ true
  pub size : variables regular alternate (f / 2 ^ 16 * 2 ^ 16) ≡ arguments regular alternate (f / 2 ^ 16 * 2 ^ 16) + n
  pub taken : arguments regular alternate (f / 2 ^ 16 * 2 ^ 16) ≤ length m.temporaries

module _ {regular alternate : List ℕ} {m : Machine Cell} (g : Legal regular alternate m) where
  abbrev Pushable : Cell → Type 0
  Pushable c = Allowed regular alternate m m.frames c

  operands-allowed : Every Pushable m.temporaries
  operands-allowed = every Pushable tt m.temporaries g.temporaries

  -- other operands, in a machine alike
  with-kept : (ts : List Cell) → Every Pushable ts → Legal regular alternate (with_temporaries ts m)
  with-kept ts h = like-legal g (with-like ts m) (λ i b. h i)

  pub replace-kept : (n : ℕ) (c : Cell) → Pushable c → Legal regular alternate (replace n c m)
  replace-kept n c h =
      with-kept (c ∷ drop n m.temporaries) (every-cons Pushable c (drop n m.temporaries) h (every_drop Pushable n m.temporaries operands-allowed))

  pub discard-kept : (n : ℕ) → Legal regular alternate (discard n m)
  discard-kept n = with-kept (drop n m.temporaries) (every_drop Pushable n m.temporaries operands-allowed)

  pub swap-kept : Legal regular alternate (swap m)
  swap-kept = with-kept (swapped m.temporaries) (every-swapped Pushable m.temporaries operands-allowed)

  pub put-kept : (t : Target) (c : Cell) → DirectCell c → Legal regular alternate (put t c m)
  put-kept (Global x) c d = like-legal g (put-like (Global x) c m d) g.temporaries
  put-kept (Local a) c d = like-legal g (put-like (Local a) c m d) g.temporaries

  pub jump_kept : (place : ℕ) → Legal regular alternate (jump place m)
  jump_kept place = like-legal g (jump-like place m) g.temporaries

  pub origin-kept : (v : ℕ) → Legal regular alternate (with_origin v m)
  origin-kept v = like-legal g (origin-like v m) g.temporaries

  -- The operands become arguments, and what is left of them the older frame's temporaries.
  pub enter-kept : (n f : ℕ) → CanEnter regular alternate n f m → Legal regular alternate (enter undefined n f m)
  enter-kept n f e =
      let after = enter undefined n f m in
      let stay : StayDirect regular alternate m after refl m.frames = λ t h d. rw (enter-look undefined n f t m (names_in m g.frames refl t h)) d in
      let run = length-replicate n undefined in
      let new : LegalFrame regular alternate after (entered n f m) m.frames = record {
        function = e.function;
        cells = omega (arith, e.size, e.taken, length-append (replicate n undefined) m.temporaries);
        locals = λ i b. new-local n m.temporaries i (omega (arith, e.size));
        others = λ i b. allowed-on regular alternate m after refl m.frames m.frames (same-frames m.frames) stay
            (get_or (replicate n undefined ++ m.temporaries) i undefined) (every-run Pushable n m.temporaries tt operands-allowed i);
      } in
      record {
        frames = upon-on new (frames-on regular alternate m after refl g.frames m.frames (same-frames m.frames) stay);
        globals = g.globals;
        temporaries = λ i b. absurd (omega arith);
      }

  under : {l : List (Frame Cell)} → LegalFrames regular alternate m l → no_older l ≡ false
      → LegalFrames regular alternate m (older l) × Every (λ c. Allowed regular alternate m (older l) c) (current_cells l)
  under (bottom h s) k = absurd (true≢false k)
  under (upon {r} {q} {older} h rest) k = (rest, every (λ c. Allowed regular alternate m (q ∷ older) c) tt r.cells h.others)

  -- The cells under the variables of a frame are the older frame's temporaries again.
  pub leave-kept : (n : ℕ) (result : Bool) → no_older m.frames ≡ false → Legal regular alternate (leave undefined n result m)
  leave-kept n result e =
      let after = leave undefined n result m in
      let cells = current_cells m.frames in
      let rest = older m.frames in
      let u = under g.frames e in
      let stay : StayDirect regular alternate m after refl rest = λ t h d. rw (leave-look undefined n result t m (names_in after u.0 refl t h)) d in
      let P : Cell → Type 0 = λ c. Allowed regular alternate m rest c in
      record {
        frames = frames-on regular alternate m after refl u.0 rest (same-frames rest) stay;
        globals = g.globals;
        temporaries = λ i b. allowed-on regular alternate m after refl rest rest (same-frames rest) stay (get_or after.temporaries i undefined)
            (every-push P result (get_or cells 0 undefined) (drop n cells) (u.1 0) (every_drop P n cells u.1) i);
      }
