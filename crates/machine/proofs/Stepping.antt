-- A step by the ways that the code goes.
use Rattle.std.specs.Prelude.{Some, None, Result, Ok, Err}
use Rattle.trap.specs.Trap.{trap_of}
use Rattle.trap.specs.declared.Trap.{Trap}
use Prim.Native.Nat.{ℕ, ◌+◌, ◌*◌, ◌/◌, ◌%◌, ◌^◌, ◌<◌, ◌≤◌}
use native.Mathlib.Omega.{arith}
use mathlib.Core.Path.{◌≡◌, refl, sym, ap, ◌∙◌}
use mathlib.Core.Bool.{Bool, true, false, cond}
use mathlib.Core.List.{List}
use lib.Dec.{ltb, eqb}
use lib.ListN.{length}
use borrow.Author.Tests.{le-ltb, eq-eqb, ne_eqb, eqb-true, eqb-false}
use mir.Val.{bool_byte}
use Rattle.procedure.specs.declared.header.Block.{Block}
use Rattle.procedure.specs.Bytes.{byte_at}
use Rattle.procedure.specs.Headers.{code_start}
use Rattle.procedure.specs.Directory.{selected, function_of}
use Rattle.instruction.specs.Reading.{fetch_byte}
use Rattle.instruction.specs.Decoding.{instruction_at}
use Rattle.segment.specs.State.{lbase, flags, step_flag, set_trap}
use Rattle.segment.specs.Stack.{code_word_at, alternate_bit as bit_p, function_number, pctr}
use Rattle.manual.specs.Program.{Program}
use Rattle.manual.specs.Instructions.{Running, running, header_of, code_in, plan_at}
use Rattle.effects.specs.declared.Outcome.{Outcome}
use Rattle.effects.specs.Carried.{CarriesOut}
use Rattle.effects.specs.declared.Stepped.{Stepped}
use Rattle.effects.specs.declared.Stepped.TheVariants.{Finished, Traced}
use Rattle.machine.specs.Resuming.{step_at}
use Rattle.effects.specs.Tally.{first_in, first_byte}
use Rattle.effects.specs.Step.{StepResult, step_result, selector_of, current_function, trapped, finished, settled, settle, step_in, step_found, step_of}

-- a class and a number of eight bits are themselves
eight-bits : (n : ℕ) → n < 256 → n % 2 ^ 8 ≡ n
eight-bits n small = omega arith

flag-clear : (w : ℕ) → (w / 2 ^ 3 % 2 ≡ 1 → ⊥) → w / 2 ^ 3 % 2 ≡ 0
flag-clear w clear = omega (arith, clear)

pub bit-small : (P : Bool) → bool_byte P ≤ 1
bit-small true = omega arith
bit-small false = omega arith

pub number_small : (s : List ℕ) {number : ℕ} → current_function s ≡ number → number < 2 ^ 11
number_small s is = omega arith

-- P and the function's number in a frame's word, apart and at once
module _ (w number : ℕ) where
  pub function-in : (P : Bool) → eqb (bit_p w) 1 ≡ P → function_number w ≡ number → w / 2 ^ 16 % 2 ^ 12 ≡ number + 2048 * bool_byte P
  function-in true set is = omega (arith, eqb-true (bit_p w) 1 set)
  function-in false clear is = omega (arith, eqb-false (bit_p w) 1 clear)

  module _ (small : number < 2 ^ 11) where
    pub selector-of : (P : Bool) → w / 2 ^ 16 % 2 ^ 12 ≡ number + 2048 * bool_byte P → eqb (bit_p w) 1 ≡ P
    selector-of true is = eq-eqb (bit_p w) 1 (omega arith)
    selector-of false is = ne_eqb (bit_p w) 1 (omega arith)

    pub number_of : (P : Bool) → w / 2 ^ 16 % 2 ^ 12 ≡ number + 2048 * bool_byte P → function_number w ≡ number
    number_of true is = omega arith
    number_of false is = omega arith

-- the segment that P selects
abbrev selected_by : Bool → Program → List ℕ
selected_by P p = selected P p.regular p.alternate

same-either : {A : Type 0} (b : Bool) (a : A) → cond b a a ≡ a
same-either true a = refl
same-either false a = refl

outside : (code : List ℕ) (place : ℕ) → length code ≤ place → instruction_at code place ≡ Err (trap_of 3 1)
unfolding instruction_at fetch_byte
outside code place past = simp (le-ltb place (length code) past) (same-either (ltb place code_start) (Err (trap_of 3 1)))

no-trap : {stepped : Stepped} {t : Trap} → Ok stepped ≡ Err t → ⊥
no-trap e = cc

module _ (s : List ℕ) where
  pub trap-set : (class number : ℕ) → class < 256 → number < 256 → step_result (Err (trap_of class number)) (set_trap s class number) ≡ trapped s class number
  trap-set class number c n = rw (eight-bits class c, eight-bits number n)

  pub trace-set : (class number : ℕ) → class ≡ 2 → 0 < number → step_result (Ok (Traced (trap_of class number))) (set_trap s class number) ≡ finished number s
  trace-set class number two some = rw (two, ne_eqb number 0 (omega arith))

  pub step_set : eqb (step_flag (flags s)) 1 ≡ true → finished 1 s ≡ finished (step_flag (flags s)) s
  step_set set = ap (λ (n : ℕ). finished n s) (sym (eqb-true (step_flag (flags s)) 1 set))

  pub step_clear : eqb (step_flag (flags s)) 1 ≡ false → step_result (Ok Finished) s ≡ finished (step_flag (flags s)) s
  step_clear clear = ap (λ (n : ℕ). finished n s) (sym (flag-clear (flags s) (eqb-false (step_flag (flags s)) 1 clear)))

  -- no instruction stands outside the code
  step-outside : (f : Running) → length (code_in f) ≤ pctr (code_word_at s (lbase s)) → step_in f s ≡ trapped s 3 1
  unfolding step_in plan_at
  step-outside f past = rw (outside (code_in f) (pctr (code_word_at s (lbase s))) past)

  -- the instruction at PCTR, done as its plan says
  module _ (f : Running) {place : ℕ} (counted : place ≡ pctr (code_word_at s (lbase s))) where
    pub step-done : {r : Result Outcome Trap} {t : List ℕ} → CarriesOut s r t (λ sees. plan_at f sees place) → settled f.program.regular f.program.alternate (header_of f).rtntrace r t ≡ step_in f s
    unfolding step_in
    step-done done = ap (settle f.program.regular f.program.alternate (header_of f).rtntrace) (rw counted at done)

    -- after what has changed no word
    pub step_kept : (u : List ℕ) → u ≡ s → step_at f place u ≡ step_in f s
    unfolding step_in
    step_kept u kept = ap (step_at f place) kept ∙ ap (λ (n : ℕ). step_at f n s) counted

    -- an instruction that has not trapped stands in the function's code
    module _ {code : List ℕ} (bytes : code ≡ code_in f) {r : Result Stepped Trap} {t : List ℕ} (is : step_result r t ≡ step_in f s) where
      pub stands : {stepped : Stepped} → r ≡ Ok stepped → place < length code
      stands told =
          let inside : (length code ≤ place → ⊥) = λ past. no-trap (sym told ∙ ap (λ (x : StepResult). x.answer) (is ∙ step-outside f (rw (bytes, counted) at past))) in
          omega (arith, inside)

  -- the function of the current frame
  module _ (p : Program) {selector : Bool} {number : ℕ} (P : selector_of s ≡ selector) (n : current_function s ≡ number) where
    found : step_found p s selector (function_of (selected_by selector p) number) ≡ step_of p s
    unfolding step_of
    found = rw (← P, ← n)

    first : first_in (selected_by selector p) s (function_of (selected_by selector p) number) ≡ first_byte p.regular p.alternate s
    unfolding first_byte
    first = rw (← P, ← n)

    pub step-absent : function_of (selected_by selector p) number ≡ None → trapped s 3 1 ≡ step_of p s
    step-absent is = ap (step_found p s selector) (sym is) ∙ found

    module _ (block : Block) (is : function_of (selected_by selector p) number ≡ Some block) where
      pub step-found : step_in (running p selector block) s ≡ step_of p s
      step-found = ap (step_found p s selector) (sym is) ∙ found

      pub first_found : first_in (selected_by selector p) s (Some block) ≡ first_byte p.regular p.alternate s
      first_found = ap (first_in (selected_by selector p) s) (sym is) ∙ first

  -- the function that the second word of the current frame tells at once
  module _ (p : Program) (P : Bool) {number : ℕ} (block : Block) {w : ℕ} (small : number < 2 ^ 11) (is : function_of (selected_by P p) number ≡ Some block) (held : w ≡ code_word_at s (lbase s)) (same : w / 2 ^ 16 % 2 ^ 12 ≡ number + 2048 * bool_byte P) where
    told : code_word_at s (lbase s) / 2 ^ 16 % 2 ^ 12 ≡ number + 2048 * bool_byte P
    told = rw (← held) same

    pub step-here : step_in (running p P block) s ≡ step_of p s
    step-here = step-found p (selector-of (code_word_at s (lbase s)) number small P told) (number_of (code_word_at s (lbase s)) number small P told) block is

    -- the first byte there, of the function's code
    pub first-here : {code : List ℕ} {place : ℕ} → code ≡ code_in (running p P block) → place ≡ pctr (code_word_at s (lbase s)) → byte_at code place ≡ first_byte p.regular p.alternate s
    first-here {code} {place} bytes counted = rw (bytes, counted) (first_found p (selector-of (code_word_at s (lbase s)) number small P told) (number_of (code_word_at s (lbase s)) number small P told) block is)
