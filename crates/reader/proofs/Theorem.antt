-- The theorem of walking. Every instruction ends past its first byte, so the bound on a walk's steps is never met.
use mathlib.Core.Path.{◌≡◌, refl, sym, ap, ◌∙◌}
use mathlib.Core.Bool.{cond}
use mathlib.Core.List.{List, [], ◌∷◌}
use Prim.Native.Nat.{ℕ, zero, suc, ◌+◌, ◌^◌, ◌≤◌, ◌<◌}
use native.Mathlib.Omega.{arith}
use lib.ListN.{length}
use lib.Dec.{ltb}
use borrow.Author.Tests.{lt-ltb, le-ltb}
use Rattle.descriptor.specs.declared.address.CodeAddress.{CodeAddress}
use Rattle.std.proofs.Common.{Result, Ok, Err}
use Rattle.trap.specs.declared.Trap.{Trap}
use Rattle.instruction.specs.declared.Decoded.{Decoded}
use Rattle.instruction.specs.Decoding.{instruction_at}
use Rattle.instruction_theorems.specs.Theorems.{Next}
use Rattle.instruction_theorems.proofs.Theorem.{decoding}
use Rattle.reader.specs.Walking.{with_end, place_after, found_by, walk_in, walk}
use Rattle.reader.specs.Theorems.{Walking}

-- past the end of the code a walk has nothing
over : (steps : ℕ) (code : List ℕ) (place : CodeAddress) → length code ≤ place.0 → walk_in steps code place ≡ []
unfolding walk_in
over zero code place h = refl
over (suc steps) code place h = simp (le-ltb place.0 (length code) h)

module _ (code : List ℕ) (short : length code < 2 ^ 32) where
  -- two walks that agree from every later place on agree after what was found
  onward : (f g : CodeAddress → List (CodeAddress × Result Decoded Trap)) (place : CodeAddress)
      → ((end : CodeAddress) → place.0 < end.0 → f end ≡ g end)
      → (d : Result Decoded Trap) → Next place.0 code d → with_end d [] f ≡ with_end d [] g
  onward f g place same (Ok d) h = same d.next h.1
  onward f g place same (Err trap) h = refl

  -- more steps than the code has bytes left change nothing
  enough : (m n : ℕ) (place : CodeAddress) → length code ≤ m + place.0 → length code ≤ n + place.0
      → walk_in m code place ≡ walk_in n code place
  unfolding walk_in
  enough zero n place hm hn = sym (over n code place (omega arith))
  enough (suc m) zero place hm hn = over (suc m) code place (omega arith)
  enough (suc m) (suc n) place hm hn =
      ap (λ (after : List (CodeAddress × Result Decoded Trap)).
      cond (ltb place.0 (length code)) ((place, instruction_at code place.0) ∷ after) [])
      (onward (walk_in m code) (walk_in n code) place (λ end later. enough m n end (omega arith) (omega arith))
      (instruction_at code place.0) (decoding.advances code short place.0))

-- the place after an instruction is its end
left : (d : Result Decoded Trap) (code : List ℕ) (place : CodeAddress)
    → with_end d [] (λ end. walk code end) ≡ with_end d [] (λ end. walk code (place_after place d))
left (Ok d) code place = refl
left (Err trap) code place = refl

pub walking : Walking
unfolding walk_in
walking = record {
  reads_on = λ r short inside.
      enough r.code.now short (length r.code.now) (suc (length r.code.now)) r.place (omega arith) (omega arith)
      ∙ (simp (lt-ltb r.place.0 (length r.code.now) inside)
      (ap (λ (after : List (CodeAddress × Result Decoded Trap)). (r.place, found_by r) ∷ after) (left (found_by r) r.code.now r.place)));
  ends = λ r past. over (length r.code.now) r.code.now r.place past;
}
