-- PCTR of the current frame, the index origin, and the trap.
use Prim.Native.Nat.{ℕ, suc, ◌+◌, ◌-◌, ◌*◌, ◌/◌, ◌%◌, ◌^◌, ◌<◌, ◌≤◌}
use mathlib.Core.Path.{◌≡◌, refl, sym, ◌∙◌, ap}
use mathlib.Core.List.{List}
use mathlib.Core.Logic.{◌≢◌, inl, inr, ⊎_elim}
use native.Mathlib.Omega.{arith}
use lib.ListN.{get_or, set, length, length-set}
use lib.Seq.{get_or-set_same, get_or-set_other}
use Rattle.segment.specs.State.{sbase, ltop, lbase, flags, blockptr, set_iorg}
use Rattle.segment.specs.Blocks.{part}
use Rattle.segment.specs.Stack.{last_lbase_at, code_word_at, downward, set_pctr}
use Rattle.segment.specs.Cells.{cell}
use Rattle.segment.specs.Machine.{Machine, map_machine}
use Rattle.segment.specs.View.{frames_from, words, view}
use Rattle.manual.specs.Effects as manual
use Rattle.manual.proofs.Machines.{jump-cells, map-jump}
use Rattle.segment.proofs.Runs.{part_same}
use Rattle.storage_theorems.proofs.Counts.{order}
use Rattle.storage_theorems.specs.Elsewhere.{Elsewhere}
use Rattle.storage_theorems.proofs.Steps.{downward-same}
use Rattle.storage_theorems.proofs.Elsewhere.{own-elsewhere, cell-elsewhere}
use Rattle.effects.specs.Sound.{Sound}
use Rattle.effects_theorems.specs.Theorems.{StateKept}
use Rattle.effects_theorems.proofs.StateWords.{state-set}
use Rattle.frame_theorems.proofs.Counts.{machine-agree}
use Rattle.frame_theorems.proofs.Frames.{frames-bottom, frames-next, frames-same, chain_same, words_left}
use Rattle.effects_theorems.proofs.Sound.{Bounds, bounds, set-elsewhere, Done}

module _ (s : List ℕ) (g : Sound s) (place : ℕ) (small : place < 2 ^ 16) where
  abbrev i : ℕ
  i = sbase s + lbase s + 1

  abbrev v : ℕ
  v = code_word_at s (lbase s) / 2 ^ 16 * 2 ^ 16 + place

  abbrev s' : List ℕ
  s' = set s i v

  low : Bounds s
  low = bounds g

  other : (j : ℕ) → j ≢ i → get_or s' j 0 ≡ get_or s j 0
  other j h = rw get_or-set_other

  here : get_or s' i 0 ≡ v
  here = let l : i < length s = omega (arith, low) in rw get_or-set_same

  moved : Elsewhere s s'
  moved = set-elsewhere s i v low.low (omega (arith, low)) (inr (omega arith))

  jumped-frames : frames_from (suc (lbase s)) s' (lbase s) ≡ manual.jump_frames place (frames_from (suc (lbase s)) s (lbase s))
  jumped-frames = ⊎_elim lowest next (order (lbase s) (last_lbase_at s (lbase s)))
    where
      f1 : (code_word_at s (lbase s) / 2 ^ 16 * 2 ^ 16 + place) / 2 ^ 16 ≡ code_word_at s (lbase s) / 2 ^ 16
      f1 = omega (arith, small)

      f2 : (code_word_at s (lbase s) / 2 ^ 16 * 2 ^ 16 + place) % 2 ^ 16 ≡ place
      f2 = omega (arith, small)

      lowest : lbase s ≤ last_lbase_at s (lbase s) → frames_from (suc (lbase s)) s' (lbase s) ≡ manual.jump_frames place (frames_from (suc (lbase s)) s (lbase s))
      lowest q =
          let d : downward s' (sbase s + 0) (lbase s - 0) ≡ downward s (sbase s + 0) (lbase s - 0) = downward-same s s' (sbase s + 0) (lbase s - 0)
          (λ k l u. other k (omega arith)) in
          frames-bottom (lbase s) s' (lbase s) (sbase s) (last_lbase_at s (lbase s)) v moved.bound (other (sbase s + lbase s) (omega arith)) here q
          ∙ rw (f1, f2, d) (ap (manual.jump_frames place) (sym (frames-bottom (lbase s) s (lbase s) (sbase s) _ _ refl refl refl q)))

      next : last_lbase_at s (lbase s) < lbase s → frames_from (suc (lbase s)) s' (lbase s) ≡ manual.jump_frames place (frames_from (suc (lbase s)) s (lbase s))
      next q =
          let last = last_lbase_at s (lbase s) in
          let d : downward s' (sbase s + (last + 2)) (lbase s - (last + 2)) ≡ downward s (sbase s + (last + 2)) (lbase s - (last + 2)) = downward-same s s'
          (sbase s + (last + 2)) (lbase s - (last + 2)) (λ k l u. other k (omega arith)) in
          let r : frames_from (lbase s) s' last ≡ frames_from (lbase s) s last = frames-same (lbase s) s s' last moved.bound (λ k l u. other k (omega arith)) in
          frames-next (lbase s) s' (lbase s) (sbase s) last v moved.bound (other (sbase s + lbase s) (omega arith)) here q
          ∙ rw (f1, f2, d, r) (ap (manual.jump_frames place) (sym (frames-next (lbase s) s (lbase s) (sbase s) _ _ refl refl refl q)))

  jumped-words : words s' ≡ manual.jump place (words s)
  unfolding words
  jumped-words =
      let o0 : get_or s' 0 0 ≡ get_or s 0 0 = other 0 (omega arith) in
      let o1 : get_or s' 1 0 ≡ get_or s 1 0 = other 1 (omega (arith, low)) in
      let o2 : get_or s' 2 0 ≡ get_or s 2 0 = other 2 (omega (arith, low)) in
      let o4 : get_or s' 4 0 ≡ get_or s 4 0 = other 4 (omega (arith, low)) in
      let gl : part s' 8 (blockptr s - 8) ≡ part s 8 (blockptr s - 8) = part_same s s' 8 (blockptr s - 8) (λ k l u. other k (omega (arith, low))) in
      let tm : downward s' (sbase s + lbase s + 2) (ltop s - (lbase s + 1)) ≡ downward s (sbase s + lbase s + 2) (ltop s - (lbase s + 1)) = downward-same s s'
      (sbase s + lbase s + 2) (ltop s - (lbase s + 1)) (λ k l u. other k (omega arith)) in
      rw (o0, o1, o2, o4, gl, tm, jumped-frames)

  jump-sound : Sound (set_pctr s place)
  unfolding set_pctr
  jump-sound =
      let o1 : lbase s' ≡ lbase s = ap (λ (w : ℕ). w / 2 ^ 16) (other 1 (omega (arith, low))) in
      record {
        own = rw (jumped-words, jump-cells place (words s).frames) (own-elsewhere moved g.own);
        fits = omega (arith, other 0 (omega arith), length-set s i v, g.fits);
        above = omega (arith, other 0 (omega arith), other 1 (omega (arith, low)), g.above);
        chain = rw o1 (chain_same s' g.chain moved.bound (λ k l u. other k (omega arith)));
      }

  jump-state : StateKept s (set_pctr s place)
  unfolding set_pctr
  jump-state = state-set s i v (omega arith) (inr (omega (arith, low)))

  jump-view : view (set_pctr s place) ≡ manual.jump place (view s)
  unfolding set_pctr view
  jump-view =
      ap (map_machine (cell s')) jumped-words
      ∙ rw (map-jump (cell s') place (words s).frames)
      (ap (manual.jump place) (machine-agree (cell s') (cell s) (words s) (λ w k. cell-elsewhere moved g.own w k)))

  pub jump-done : Done s (set_pctr s place) (manual.jump place (view s))
  jump-done = record { sound = jump-sound; seen = jump-view; state = jump-state }

-- the flags, or the trap's word
abbrev with_flags : {A : Type 0} → ℕ → Machine A → Machine A
with_flags v m = record { flags = v; temporaries = m.temporaries; frames = m.frames; globals = m.globals }

module _ (s : List ℕ) (g : Sound s) (i v : ℕ) (from : 2 ≤ i) (to : i < 4) where
  abbrev t : List ℕ
  t = set s i v

  bound : Bounds s
  bound = bounds g

  rest : (j : ℕ) → j ≢ i → get_or t j 0 ≡ get_or s j 0
  rest j h = rw get_or-set_other

  settled : Elsewhere s t
  settled = record {
    long = length-set s i v;
    bound = ap (λ (w : ℕ). w / 2 ^ 16) (rest 0 (omega arith));
    turn = ap (λ (w : ℕ). w % 2 ^ 16) (rest 1 (omega arith));
    start = rest 4 (omega arith);
    inner = λ j l u. rest j (omega (arith, bound));
  }

  state-words : words t ≡ with_flags (flags t) (words s)
  unfolding words
  state-words =
      let o0 : get_or t 0 0 ≡ get_or s 0 0 = rest 0 (omega arith) in
      let o1 : get_or t 1 0 ≡ get_or s 1 0 = rest 1 (omega arith) in
      let tm : downward t (sbase s + lbase s + 2) (ltop s - (lbase s + 1)) ≡ downward s (sbase s + lbase s + 2) (ltop s - (lbase s + 1)) = downward-same s t
      (sbase s + lbase s + 2) (ltop s - (lbase s + 1)) (λ k l u. rest k (omega arith)) in
      words_left s t bound.low settled.bound (ap (λ (w : ℕ). w / 2 ^ 16) o1) (λ k l u. rest k (omega arith)) (λ k l u. rest k (omega (arith, bound)))
      ∙ rw (o0, tm)

  state-sound : Sound t
  state-sound =
      let o1 : lbase t ≡ lbase s = ap (λ (w : ℕ). w / 2 ^ 16) (rest 1 (omega arith)) in
      record {
        own = rw state-words (own-elsewhere settled g.own);
        fits = omega (arith, rest 0 (omega arith), settled.long, g.fits);
        above = omega (arith, rest 0 (omega arith), o1, g.above);
        chain = rw o1 (chain_same t g.chain settled.bound (λ k l u. rest k (omega (arith, bound))));
      }

  state-view : view t ≡ with_flags (flags t) (view s)
  unfolding view
  state-view =
      ap (map_machine (cell t)) state-words
      ∙ ap (with_flags (flags t)) (machine-agree (cell t) (cell s) (words s) (λ w k. cell-elsewhere settled g.own w k))

module _ (s : List ℕ) (g : Sound s) (v : ℕ) where
  pub origin-done : Done s (set_iorg s v) (manual.with_origin v (view s))
  unfolding set_iorg view words
  origin-done =
      let l : 2 < length s = omega (arith, bounds g) in
      let w : flags (set s 2 (flags s / 2 * 2 + v)) ≡ flags s / 2 * 2 + v = rw get_or-set_same in
      record {
        sound = state-sound s g 2 (flags s / 2 * 2 + v) (omega arith) (omega arith);
        seen = state-view s g 2 (flags s / 2 * 2 + v) (omega arith) (omega arith) ∙ ap (λ (f : ℕ). with_flags f (view s)) w;
        state = state-set s 2 (flags s / 2 * 2 + v) (omega arith) (inl (omega arith));
      }

-- the trap's word is no part of the machine
module _ (s : List ℕ) (g : Sound s) (v : ℕ) where
  same_flags : flags (set s 3 v) ≡ flags s
  same_flags = rest s g 3 v (omega arith) (omega arith) 2 (omega arith)

  pub trap-sound : Sound (set s 3 v)
  trap-sound = state-sound s g 3 v (omega arith) (omega arith)

  pub trap-view : view (set s 3 v) ≡ view s
  unfolding view words
  trap-view = state-view s g 3 v (omega arith) (omega arith) ∙ ap (λ (f : ℕ). with_flags f (view s)) same_flags
