-- The current frame, by the words and by the view: the function that runs is the same, and what is planned from the one is
-- planned from the other.
use Rattle.std.proofs.Common.{Some}
use Prim.Native.Nat.{ℕ, ◌+◌, ◌-◌, ◌/◌, ◌^◌}
use mathlib.Core.Path.{◌≡◌, refl, sym, ◌∙◌}
use mathlib.Core.Bool.{Bool, true, false, cond}
use mathlib.Core.List.{List, [], ◌∷◌}
use native.Mathlib.Omega.{arith}
use lib.Dec.{leb, ltb}
use lib.ListN.{length}
use Rattle.procedure.specs.Headers.{block_at}
use Rattle.procedure.specs.Directory.{start_of, has_function, function_of}
use Rattle.instruction.specs.declared.Instruction.{Instruction}
use Rattle.std.proofs.Common.{Result, Ok, Err}
use Rattle.trap.specs.declared.Trap.{Trap}
use Rattle.instruction.specs.declared.Decoded.{Decoded}
use Rattle.instruction.specs.Decoding.{instruction_at}
use Rattle.segment.specs.State.{sbase, lbase}
use Rattle.segment.specs.Stack.{last_lbase_at, code_word_at, function_number, pctr}
use Rattle.segment.specs.Cells.{Cell, cell}
use Rattle.segment.specs.Machine.{Frame, map_frames}
use Rattle.segment.specs.View.{frame_at, frames_from, words, view}
use Rattle.acceptance_storage.proofs.Tests.{both}
use Rattle.acceptance.specs.Frames.{frame_segment, known, arguments, variables}
use Rattle.acceptance.specs.Structure.{Accepted}
use Rattle.manual.specs.OrTrap.{gives}
use Rattle.manual.specs.Effects.{Effect}
use Rattle.manual.specs.Seen.{variables_of, seen_of}
use Rattle.manual.specs.Program.{Program, under_table}
use Rattle.manual.specs.Instructions.{Running, running, header_of, code_in, plan_of, plan_decoded, plan_at}
use Rattle.effects.specs.Seen.{seen}
use Rattle.effects.specs.Sound.{Sound}
use Rattle.effects.specs.Alike.{HasFrame}
use Rattle.effects_theorems.proofs.Plans.{plans-theorems}
use Rattle.legality.proofs.FunctionWord.{same-alternate, same_number, same-variables}
use Rattle.legality.proofs.Runs.{function-known}
use Rattle.legality.proofs.Accepted.{legal-theorems}
use Rattle.legality.specs.Legal.{function_word}
use Rattle.legality.specs.Kept.{RunsIn}
use Rattle.effects.specs.Carried.{carry}
use Rattle.effects.specs.Step.{selector_of, current_function, current_header, settle, step_in, step_of}
use Rattle.step_theorems.specs.Planned.{frame_selector, next_plan, planned, header_in}

-- ---- the first frame of the view

record Current (s : List ℕ) (l : List (Frame Cell)) : Type 0 where
  frame : Frame Cell
  older : List (Frame Cell)
  frames : l ≡ frame ∷ older
  function : frame.function ≡ code_word_at s (lbase s) / 2 ^ 16
  place : frame.pctr ≡ pctr (code_word_at s (lbase s))

current : (s : List ℕ) → Current s (view s).frames
unfolding view words frames_from
current s = go (leb (lbase s) (last_lbase_at s (lbase s)))
  where
    go : (b : Bool) → Current s (map_frames (cell s)
        (cond b (frame_at s (lbase s) 0 ∷ []) (frame_at s (lbase s) (last_lbase_at s (lbase s) + 2) ∷ frames_from (lbase s) s (last_lbase_at s (lbase s)))))
    go true = record { frame = _; older = _; frames = refl; function = refl; place = refl }
    go false = record { frame = _; older = _; frames = refl; function = refl; place = refl }

-- ---- the function that runs

-- by the view and by the words
module _ (s : List ℕ) where
  same-selector : frame_selector (current s).frame ≡ selector_of s
  same-selector = rw ((current s).function, same-alternate (code_word_at s (lbase s)))

  same-function : function_number (function_word (current s).frame) ≡ current_function s
  same-function = rw ((current s).function, same_number (code_word_at s (lbase s)))

pub header-seen : (regular alternate s : List ℕ) → header_in regular alternate (view s) ≡ current_header regular alternate s
unfolding current_header
header-seen regular alternate s = rw ((current s).frames, same-selector s, same-function s)

found : (regular alternate : List ℕ) (w : ℕ) → known regular alternate w ≡ true
    → function_of (frame_segment regular alternate w) (function_number w)
    ≡ Some (block_at (frame_segment regular alternate w) (start_of (frame_segment regular alternate w) (function_number w)))
unfolding function_of known
found regular alternate w h = rw (both (ltb w (2 ^ 28)) (has_function (frame_segment regular alternate w) (function_number w)) h).1

-- The function of the current frame.
abbrev pub current-function : List ℕ → Program → Running
current-function s p =
    let segment = frame_segment p.regular p.alternate (code_word_at s (lbase s)) in
    running p (selector_of s) (block_at segment (start_of segment (current_function s)))

pub header-running : (s : List ℕ) (p : Program) → header_in p.regular p.alternate (view s) ≡ header_of (current-function s p)
unfolding current_header
header-running s p = header-seen p.regular p.alternate s

-- An instruction of which these effects are planned.
pub record Decodes (s : List ℕ) (f : Running) (es : List Effect) : Type 0 where
  pub instruction : Instruction
  pub next : ℕ
  pub by_words : plan_of f (seen s) instruction next ≡ gives es
  pub by_cells : plan_of f (seen_of (length s - sbase s) (view s)) instruction next ≡ gives es

module _ (s : List ℕ) (p : Program) (h : Accepted s p.regular p.alternate) where
  abbrev regular : List ℕ
  regular = p.regular

  abbrev alternate : List ℕ
  alternate = p.alternate

  abbrev f : Running
  f = current-function s p

  function-there : function_of (frame_segment regular alternate (code_word_at s (lbase s))) (current_function s) ≡ Some f.block
  function-there = found regular alternate (code_word_at s (lbase s)) (function-known s regular alternate h.older (lbase s) h.chain)

  pub runs : HasFrame s (variables_of (header_of f)) (header_of f).result
  unfolding variables arguments
  runs = legal-theorems.runs s regular alternate h

  pub runs-in : RunsIn regular alternate f (view s)
  unfolding variables arguments
  runs-in =
      let c = current s in
      record {
        regular_segment = refl;
        alternate_segment = refl;
        current = c.frame;
        older = c.older;
        frames = c.frames;
        size = rw c.function (sym (same-variables (code_word_at s (lbase s)) regular alternate));
      }

  -- ---- the plan

  abbrev place : ℕ
  place = pctr (code_word_at s (lbase s))

  plan-seen : planned s p ≡ plan_at f (seen_of (length s - sbase s) (view s)) place
  unfolding next_plan
  plan-seen = rw ((current s).frames, same-selector s, same-function s, function-there, same-selector s, (current s).place)

  pub plan-is : Sound s → planned s p ≡ plan_at f (seen s) place
  plan-is g = plan-seen ∙ sym (plans-theorems.decoded s g f runs place)

  pub step_is : Sound s → step_of p s ≡ settle regular alternate (header_of f).rtntrace (carry s (planned s p))
  unfolding step_of step_in
  step_is g = rw (plan-is g, function-there)

  -- where effects are planned, they are those of an instruction, by the words and by the view
  pub decodes : Sound s → (es : List Effect) → planned s p ≡ gives es → Decodes s f es
  unfolding plan_at
  decodes g es e = go (instruction_at (code_in f) place) (sym (plan-is g) ∙ e) (sym plan-seen ∙ e)
    where
      go : (d : Result Decoded Trap) → plan_decoded f (seen s) d ≡ gives es → plan_decoded f (seen_of (length s - sbase s) (view s)) d ≡ gives es → Decodes s f es
      go (Ok d) by_words by_cells = record { instruction = under_table p.table d.instruction; next = d.next.0; by_words = by_words; by_cells = by_cells }
      go (Err t) by_words by_cells = let z : ◌≡◌ {A = ℕ} 0 1 = cc in absurd (omega arith)
