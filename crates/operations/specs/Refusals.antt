-- What the numbers of refusals and halts settle. Contracts speak of the code's answers by document 01's numbers (Answers.antt): no two
-- refusals share one, and none is 0 or 3, so that a number settles the answer. Assumes nothing.
use Rattle.std.specs.Prelude.{◌≡◌, ◌≢◌}
use Rattle.operations.specs.declared.Refusal.{Refusal}
use Rattle.operations.specs.declared.Halt.{Halt}
use Rattle.operations.specs.Answers.{number_of, stop_of}

pub record RefusalTheorems : Type 0 where
  -- an engine that answers with another refusal's number is told from the right one,
  pub refusals_differ : (a b : Refusal) → number_of a ≡ number_of b → a ≡ b
  -- and so is one that refuses from one that is done,
  pub refusals_refuse : (a : Refusal) → number_of a ≢ 0
  -- and what halts a replay by what it is said to return, and where.
  pub halts_differ : (a b : Halt) → stop_of a ≡ stop_of b → a ≡ b
