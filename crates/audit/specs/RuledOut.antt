-- The engines that document 01's Agreement names do not do what `Did` and `Step` say: "These engines fail it". A field for each, in
-- the Agreement's order. Proved in proofs/RuledOut. Assumes nothing.
use Rattle.std.specs.Prelude.{ℕ, ◌≤◌, ◌≡◌, true, false, List, set}
use Rattle.segment.specs.State.{flags, step_flag, trap_word}
use Rattle.segment.specs.View.{view}
use Rattle.acceptance.specs.Refusal.{length_test}
use Rattle.manual.specs.OrTrap.{gives}
use Rattle.manual.specs.Effects.{Effect, perform_all}
use Rattle.manual.specs.Program.{Program}
use Rattle.step_theorems.specs.Planned.{planned}
use Rattle.audit.specs.Calls.{Procedures, Call, run, look, Answer, refused, ran, trapped, global_value}
use Rattle.audit.specs.Steps.{traps_by, finishes, Step, in_vain}
use Rattle.audit.specs.Runs.{RequestInVain}
use Rattle.audit.specs.Did.{Did}
use Rattle.audit.specs.Lists.{refusal_of}

-- The plans of two instructions, one after the other, and what is seen after both.
pub record TwoDone (p : Program) (s t : List ℕ) : Type 0 where
  pub first : List Effect
  pub between : List ℕ
  pub second : List Effect
  pub first_plan : planned s p ≡ gives first
  pub second_plan : planned between p ≡ gives second
  pub seen : view t ≡ perform_all second (perform_all first (view s))

pub record RuledOut : Type 0 where
  -- "one always returning 10"
  pub always_ten : {s t : List ℕ} {c : Call} → length_test s ≡ true → Did s c (refused 10) t → ⊥
  -- "one trapping at every step": (2,1) where STEP is clear, or a trap where the plan gives effects that find room;
  pub step_made_up : {p : Program} {s t : List ℕ} → step_flag (flags s) ≡ 0 → Step p s (finishes 1) t → ⊥
  pub trap_made_up : {p : Program} {s t : List ℕ} {es : List Effect} {class number : ℕ} → planned s p ≡ gives es
      → in_vain s es ≡ false → Step p s (traps_by class number) t → ⊥
  -- nor may STEP be ignored
  pub step_ignored : {p : Program} {s t : List ℕ} → step_flag (flags s) ≡ 1 → Step p s (finishes 0) t → ⊥
  -- "or returning one look for all": globals of which a look answers the same hold the same value
  pub one_look : {p : Procedures} {s t u : List ℕ} {g h : ℕ} {a : Answer} → Did s (look p g) a t → Did s (look p h) a u → refusal_of a ≡ 0 → global_value s g ≡ global_value s h
  -- "one that moves nothing"; "one that runs the first instruction and then only counts"
  pub only_counts : {p : Program} {s t : List ℕ} → Did s (run p 2) (ran 2) t → TwoDone p (set s 3 0) t
  -- "made-up steps"; "one saying 2 early"
  pub early : {p : Program} {s t : List ℕ} {budget n : ℕ} → Did s (run p budget) (ran n) t → (n ≡ budget) × (trap_word t ≡ 0)
  pub steps_made_up : {p : Program} {s t : List ℕ} {budget n : ℕ} → Did s (run p budget) (trapped n) t → n ≤ budget
  -- "or full with a long block free"
  pub full : {p : Program} {s t : List ℕ} → Step p s (traps_by 1 2) t → RequestInVain p s
