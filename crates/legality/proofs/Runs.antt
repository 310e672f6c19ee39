-- What an instruction of the current function may rely on in an accepted segment.
use Prim.Native.Nat.{ℕ, ◌^◌, ◌<◌, ◌≤◌}
use mathlib.Core.Path.{◌≡◌, refl, ◌∙◌}
use mathlib.Core.Bool.{Bool, true, false}
use mathlib.Core.List.{List, [], ◌∷◌}
use native.Mathlib.Omega.{arith}
use lib.Dec.{ltb, eqb}
use borrow.Author.Tests.{ltb-true, eqb-false}
use Rattle.descriptor.specs.declared.Target.{Target}
use Rattle.descriptor.specs.declared.Target.TheVariants.{Local, Global}
use Rattle.segment.specs.State.{lbase}
use Rattle.segment.specs.Stack as stack
use Rattle.segment.specs.Stack.{code_word_at, function_number}
use Rattle.segment.specs.Cells.{undefined, indirect, cell}
use Rattle.procedure.specs.Directory.{selected, entries, has_function, result_of}
use Rattle.procedure.specs.Refusal.{procedure_refusal}
use Rattle.procedure.specs.Accepted as table
use Rattle.procedure.proofs.Accepting.{acceptance}
use Rattle.segment.specs.View.{words, view}
use Rattle.effects.specs.Sources.{held_at}
use Rattle.manual.specs.Effects.{AddressableIn, look}
use Rattle.effects.specs.Fits.{Addressable}
use Rattle.effects.specs.Alike.{HasFrame}
use Rattle.acceptance_storage.proofs.Tests.{never, both}
use Rattle.acceptance.specs.Frames.{frame_segment, known, variables}
use Rattle.acceptance.specs.Structure.{FrameChain, Accepted}
use Rattle.legality.specs.Accepted.{current_variables, current_result}
use Rattle.legality.proofs.Stacked.{current-room}
use Rattle.legality.proofs.Cells.{globals-length, look-global, whole, look-local}
use Rattle.manual.proofs.Machines.{current-map}
use Rattle.manual.proofs.Cellwise.{in_map}
use Rattle.legality.proofs.Legal.{held_in}
use Rattle.legality.proofs.Split.{split}

-- A function with a result has a local: document 01, "RESULT needs NLOCALS at least 1".
in-directory : (p : List ℕ) (k : ℕ) → has_function p k ≡ true → (1 ≤ k) × (k < entries p)
unfolding has_function
in-directory p k h = go (eqb k 0) refl
  where
    go : (b : Bool) → eqb k 0 ≡ b → (1 ≤ k) × (k < entries p)
    go true e = absurd (never (simp e at h))
    go false e = (omega (arith, eqb-false k 0 e), ltb-true k (entries p) (simp e at h))

segment-accepted : (P : Bool) (regular alternate : List ℕ) → table.ProcedureSegment regular × table.ProcedureSegment alternate → table.ProcedureSegment (selected P regular alternate)
segment-accepted true regular alternate h = h.1
segment-accepted false regular alternate h = h.0

result-local : (regular alternate : List ℕ) (w : ℕ) → procedure_refusal regular alternate ≡ 0 → known regular alternate w ≡ true
    → result_of (frame_segment regular alternate w) (function_number w) ≡ true → 1 ≤ variables regular alternate w
unfolding known variables
result-local regular alternate w h k e =
    let p = segment-accepted (eqb (stack.alternate_bit w) 1) regular alternate ((acceptance regular alternate).sound h) in
    let n = in-directory (frame_segment regular alternate w) (function_number w) (both (ltb w (2 ^ 28)) (has_function (frame_segment regular alternate w) (function_number w)) k).1 in
    omega (arith, (p.functions (function_number w) n.0 n.1).result-local e)

pub function-known : (s regular alternate older : List ℕ) (base : ℕ) → FrameChain s regular alternate base older → known regular alternate (code_word_at s base) ≡ true
function-known s regular alternate [] base h = h.function
function-known s regular alternate (next ∷ older) base h = h.0.function

module _ (s regular alternate : List ℕ) (h : Accepted s regular alternate) where
  -- what a variable is seen as
  look-held : (t : Target) → AddressableIn t (view s) → look undefined t (view s) ≡ cell s (held_at s t)
  look-held (Global g) v = look-global s g.0 v.0 (omega (arith, v, globals-length s))
  look-held (Local a) v = look-local s regular alternate h.older h.chain a.0 v

  targets : (t u : Target) → Addressable s t → cell s (held_at s t) ≡ indirect u → Addressable s u
  unfolding view
  targets t u v e = (in_map (cell s) u (words s)).1 (held_in (split s regular alternate h).legal t u (look-held t ((in_map (cell s) t (words s)).0 v) ∙ e))

  pub runs : HasFrame s (current_variables s regular alternate) (current_result s regular alternate)
  unfolding view
  runs = record {
    cells = omega (arith, current-room s regular alternate (whole s regular alternate h.older h.chain), current-map (cell s) (words s).frames);
    some = result-local regular alternate (code_word_at s (lbase s)) h.procedures (function-known s regular alternate h.older (lbase s) h.chain);
    targets = targets;
  }
