-- A segment is accepted again: after the effects of a plan, and after a write to the trap's word.
use Prim.Native.Nat.{ℕ, ◌^◌, ◌<◌, ◌≤◌}
use mathlib.Core.Path.{◌≡◌, refl, sym, ◌∙◌, ap, subst}
use mathlib.Core.Logic.{◌≢◌}
use mathlib.Core.List.{List}
use native.Mathlib.Omega.{arith}
use lib.ListN.{get_or, set, length, length-set}
use lib.Seq.{get_or-set_same, get_or-set_other}
use Rattle.segment.specs.State.{flags, trap_word}
use Rattle.segment.specs.Cells.{Cell}
use Rattle.segment.specs.Machine.{Machine}
use Rattle.segment.specs.View.{words, view}
use Rattle.acceptance.specs.Structure.{Accepted}
use Rattle.manual.specs.Effects.{Effect, perform_all}
use Rattle.effects.specs.Sound.{Sound}
use Rattle.effects_theorems.specs.Theorems.{StateKept, PerformedAll}
use Rattle.effects_theorems.proofs.Sound.{bounds}
use Rattle.effects_theorems.proofs.State.{trap-sound, trap-view}
use Rattle.effects.specs.Perform.{performs}
use Rattle.legality.specs.Legal.{Legal}
use Rattle.legality.proofs.Accepted.{legal-theorems}
use Rattle.legality.specs.Kept.{KeepsLegal}

abbrev pub sound-of : {s regular alternate : List ℕ} → Accepted s regular alternate → Sound s
sound-of {s} {regular} {alternate} h =
    record { own = h.owned; fits = h.head.top; above = h.top; chain = (legal-theorems.split s regular alternate h).sound.chain }

pub view-flags : (s : List ℕ) → (view s).flags ≡ flags s
unfolding view words
view-flags s = refl

module _ (s regular alternate : List ℕ) (h : Accepted s regular alternate) where
  -- what is left of the state words, where the rest is sound and legal
  pub accepted-again : (t : List ℕ) → length t ≡ length s → Sound t → Legal regular alternate (view t) → flags t < 2 ^ 4 → trap_word t < 2 ^ 16
      → ((i : ℕ) → 5 ≤ i → i < 8 → get_or t i 0 ≡ get_or s i 0) → Accepted t regular alternate
  accepted-again t long sound legal f w rest =
      legal-theorems.join t regular alternate (record {
        shortest = omega (arith, long, h.shortest);
        longest = omega (arith, long, h.longest);
        procedures = h.procedures;
        head = record {
          flag_bits = f;
          trap_bits = w;
          low = (bounds sound).low;
          word5 = rest 5 (omega arith) (omega arith) ∙ h.head.word5;
          word6 = rest 6 (omega arith) (omega arith) ∙ h.head.word6;
          word7 = rest 7 (omega arith) (omega arith) ∙ h.head.word7;
          room = (bounds sound).mid;
          top = sound.fits;
        };
        sound = sound;
        legal = legal;
      })

  pub trap-accepted : (v : ℕ) → v < 2 ^ 16 → Accepted (set s 3 v) regular alternate
  trap-accepted v small =
      let g = sound-of h in
      let there : trap_word (set s 3 v) ≡ v = let l : 3 < length s = omega (arith, h.shortest) in rw get_or-set_same in
      accepted-again (set s 3 v) (length-set s 3 v) (trap-sound s g v) (rw (trap-view s g v) (legal-theorems.split s regular alternate h).legal)
      (omega (arith, other_word 2 (omega arith), h.head.flag_bits)) (omega (arith, there)) (λ i l u. other_word i (omega arith))
    where
      other_word : (i : ℕ) → i ≢ 3 → get_or (set s 3 v) i 0 ≡ get_or s i 0
      other_word i n = rw get_or-set_other

  pub effects-accepted : (es : List Effect) → PerformedAll s es → StateKept s (performs s es) → KeepsLegal regular alternate (view s) es
      → Accepted (performs s es) regular alternate
  effects-accepted es performed state kept =
      let t = performs s es in
      let fl : flags t ≡ (perform_all es (view s)).flags = sym (view-flags t) ∙ ap (λ (m : Machine Cell). m.flags) performed.seen in
      accepted-again t state.long performed.sound (subst (Legal regular alternate) (sym performed.seen) kept.legal)
      (omega (arith, fl, kept.flags, view-flags s, h.head.flag_bits))
      (omega (arith, state.rest 3 (omega arith) (omega arith), h.head.trap_bits))
      (λ i l u. state.rest i (omega arith) u)
