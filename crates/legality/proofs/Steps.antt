-- Effects one after the other, each of which meets a machine where it may be performed: what they leave is legal.
use Prim.Native.Nat.{ℕ, ◌+◌, ◌*◌, ◌/◌, ◌%◌, ◌^◌, ◌<◌}
use mathlib.Core.Path.{◌≡◌, refl, ◌∙◌}
use mathlib.Core.Bool.{false}
use mathlib.Core.List.{List, [], ◌∷◌}
use native.Mathlib.Omega.{arith}
use Rattle.descriptor.specs.declared.Target.{Target}
use Rattle.descriptor.specs.declared.Target.TheVariants.{Local, Global}
use Rattle.segment.specs.Cells.{Cell, undefined, indirect, value, invalid}
use Rattle.segment.specs.Machine.{Machine}
use Rattle.manual.specs.Effects.{Effect, replaces, discards, swaps, stores, stores_element, enters, leaves, jumps, sets_origin, look, put, meant, with_element, perform_on}
use Rattle.manual.specs.Seen.{no_older}
use Rattle.legality.specs.Legal.{DirectCell, Allowed, Legal}
use Rattle.legality.specs.Kept.{KeepsLegal}
use Rattle.legality.proofs.Legal.{direct-allowed}
use Rattle.legality.proofs.Effects.{CanEnter, replace-kept, discard-kept, swap-kept, put-kept, jump_kept, origin-kept, enter-kept, leave-kept}

element-direct : (place w : ℕ) (c : Cell) → DirectCell c → DirectCell (with_element place w c)
element-direct place w undefined d = tt
element-direct place w (indirect t) d = absurd d
element-direct place w (value shape ravel) d = tt
element-direct place w invalid d = absurd d

-- a store leaves the flags, and IORG is the lowest
put-flags : (t : Target) (c : Cell) (m : Machine Cell) → (put t c m).flags ≡ m.flags
put-flags (Global x) c m = refl
put-flags (Local a) c m = refl

origin-half : (f v : ℕ) → v < 2 → (f / 2 * 2 + v) / 2 ≡ f / 2
origin-half f v h = omega arith

module _ (regular alternate : List ℕ) where
  -- What an effect needs of the machine that it meets.
  abbrev pub Meets : Effect → Machine Cell → Type 0
  Meets (replaces n source) m = Allowed regular alternate m m.frames (meant source m)
  Meets (discards n) m = Unit {0}
  Meets swaps m = Unit {0}
  Meets (stores t source) m = DirectCell (meant source m)
  Meets (stores_element t place w n) m = DirectCell (look undefined t m)
  Meets (enters n f) m = CanEnter regular alternate n f m
  Meets (leaves n result) m = no_older m.frames ≡ false
  Meets (jumps place) m = Unit {0}
  Meets (sets_origin v) m = v < 2

  abbrev pub AllMeet : List Effect → Machine Cell → Type 0
  AllMeet [] m = Unit {0}
  AllMeet (e ∷ es) m = Meets e m × AllMeet es (perform_on e m)

  legal-on : (e : Effect) (m : Machine Cell) → Legal regular alternate m → Meets e m → Legal regular alternate (perform_on e m)
  legal-on (replaces n source) m g h = replace-kept g n (meant source m) h
  legal-on (discards n) m g h = discard-kept g n
  legal-on swaps m g h = swap-kept g
  legal-on (stores t source) m g h = put-kept g t (meant source m) h
  legal-on (stores_element t place w n) m g h =
      let c = with_element place w (look undefined t m) in
      let d : DirectCell c = element-direct place w (look undefined t m) h in
      replace-kept (put-kept g t c d) n c (direct-allowed regular alternate (put t c m) (put t c m).frames c d)
  legal-on (enters n f) m g h = enter-kept g n f h
  legal-on (leaves n result) m g h = leave-kept g n result h
  legal-on (jumps place) m g h = jump_kept g (place % 2 ^ 16)
  legal-on (sets_origin v) m g h = origin-kept g v

  flags-on : (e : Effect) (m : Machine Cell) → Meets e m → (perform_on e m).flags / 2 ≡ m.flags / 2
  flags-on (replaces n source) m h = refl
  flags-on (discards n) m h = refl
  flags-on swaps m h = refl
  flags-on (stores t source) m h = rw put-flags
  flags-on (stores_element t place w n) m h = rw put-flags
  flags-on (enters n f) m h = refl
  flags-on (leaves n result) m h = refl
  flags-on (jumps place) m h = refl
  flags-on (sets_origin v) m h = origin-half m.flags v h

  pub all-kept : (es : List Effect) (m : Machine Cell) → Legal regular alternate m → AllMeet es m → KeepsLegal regular alternate m es
  all-kept [] m g h = record { legal = g; flags = refl }
  all-kept (e ∷ es) m g h =
      let more = all-kept es (perform_on e m) (legal-on e m g h.0) h.1 in
      record { legal = more.legal; flags = more.flags ∙ flags-on e m h.0 }
