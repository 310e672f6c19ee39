-- The two answers, and an answer for one plan as that for another that comes to the same.
use Rattle.std.specs.Prelude.{Ok}
use Prim.Native.Nat.{ℕ}
use mathlib.Core.Path.{◌≡◌, refl, ap, ◌∙◌}
use mathlib.Core.Bool.{Bool, true, false}
use mathlib.Core.List.{List}
use Rattle.manual.specs.Effects.{Plan}
use Rattle.effects.specs.declared.Outcome.TheVariants.{Finished}
use Rattle.effects.specs.Carried.{did, carry}
use Rattle.fast_path.specs.Answers.{DoneOrKept}

pub left : {s : List ℕ} {p : Plan} → DoneOrKept s p false s
left = record { done = λ no. cc; kept = λ no. refl }

pub went : {s : List ℕ} {p : Plan} {r : Bool} {t : List ℕ} → r ≡ true → did (Ok Finished) t ≡ carry s p → DoneOrKept s p r t
went is same = record { done = λ yes. same; kept = λ no. cc }

pub went-alike : {s : List ℕ} {p q : Plan} {r : Bool} {t : List ℕ} → DoneOrKept s p r t → carry s p ≡ carry s q → DoneOrKept s q r t
went-alike answer same = record { done = λ yes. answer.done yes ∙ same; kept = answer.kept }

-- For the plan by another name.
pub went-as : {s : List ℕ} {p q : Plan} {r : Bool} {t : List ℕ} → p ≡ q → DoneOrKept s p r t → DoneOrKept s q r t
went-as {s} same answer = went-alike answer (ap (carry s) same)
