-- What a run counts: one for each finished instruction, in the family of the first byte at PCTR. Document 02, paper 1; decision
-- 84: an instruction that a step or trace trap follows has finished, one that trapped has not. Assumes nothing.
use Rattle.std.specs.Prelude.{ℕ, zero, suc, List, Option, Some, None, Result, Ok, Err}
use Rattle.trap.specs.declared.Trap.{Trap}
use Rattle.procedure.specs.declared.header.Block.{Block}
use Rattle.procedure.specs.Bytes.{byte_at}
use Rattle.procedure.specs.Headers.{code_of}
use Rattle.procedure.specs.Directory.{selected, function_of}
use Rattle.segment.specs.State.{lbase}
use Rattle.segment.specs.Stack.{code_word_at, pctr}
use Rattle.manual.specs.Program.{Program}
use Rattle.tally.specs.Counts.{counted}
use Rattle.effects.specs.declared.Stepped.{Stepped}
use Rattle.effects.specs.declared.Stepped.TheVariants.{Finished, Traced}
use Rattle.effects.specs.Step.{step_of, selector_of, current_function}

-- The first byte of the instruction at PCTR in a function; where there is no function nothing finishes, and no count has its place.
abbrev pub first_in : List ℕ → List ℕ → Option Block → ℕ
first_in p s (Some block) = byte_at (code_of p block) (pctr (code_word_at s (lbase s)))
first_in p s None = 0xFF

unfoldable pub first_byte : List ℕ → List ℕ → List ℕ → ℕ
first_byte regular alternate s =
    let p = selected (selector_of s) regular alternate in
    first_in p s (function_of p (current_function s))

-- By what a step answers: `counts` before it, `more` with its instruction counted.
abbrev pub tallying : Result Stepped Trap → List ℕ → List ℕ → (List ℕ → List ℕ) → List ℕ
tallying (Ok Finished) counts more rest = rest more
tallying (Ok (Traced trap)) counts more rest = more
tallying (Err trap) counts more rest = counts

-- The counts after at most so many instructions.
unfoldable pub tallied_from : ℕ → List ℕ → Program → List ℕ → List ℕ
tallied_from zero counts p s = counts
tallied_from (suc budget) counts p s =
    let r = step_of p s in
    tallying r.answer counts (counted (first_byte p.regular p.alternate s) counts) (λ more. tallied_from budget more p r.words)
