-- EAT1, INTERCHANGE and NO_OPERATION by the ways of the code.
use Rattle.std.specs.Prelude.{Ok, Err}
use Rattle.trap.specs.Trap.{trap_of}
use Prim.Native.Nat.{ℕ, ◌≤◌, ◌<◌}
use mathlib.Core.Path.{◌≡◌, refl}
use mathlib.Core.List.{List}
use borrow.Author.Tests.{lt-ltb, le-ltb}
use Rattle.manual.specs.Effects.{jumps}
use Rattle.manual.specs.Memory as plan
use Rattle.effects.specs.Seen.{temporaries, seen}
use Rattle.effects.specs.Perform.{discard, swap, perform}
use Rattle.operands.proofs.Seen.{count-seen}
use Rattle.effects.specs.declared.Outcome.TheVariants.{Finished}
use Rattle.effects.specs.Carried.{did, carry}

module _ (s : List ℕ) (next : ℕ) where
  pub eat-missing : temporaries s < 1 → did (Err (trap_of 3 4)) s ≡ carry s (plan.eat (seen s) next)
  unfolding plan.eat
  eat-missing few = rw (count-seen s, lt-ltb (temporaries s) 1 few)

  pub eaten : 1 ≤ temporaries s → did (Ok Finished) (perform (discard s 1) (jumps next)) ≡ carry s (plan.eat (seen s) next)
  unfolding plan.eat
  eaten enough = rw (count-seen s, le-ltb (temporaries s) 1 enough)

  pub interchange-missing : temporaries s < 2 → did (Err (trap_of 3 4)) s ≡ carry s (plan.interchange (seen s) next)
  unfolding plan.interchange
  interchange-missing few = rw (count-seen s, lt-ltb (temporaries s) 2 few)

  pub interchanged : 2 ≤ temporaries s → did (Ok Finished) (perform (swap s) (jumps next)) ≡ carry s (plan.interchange (seen s) next)
  unfolding plan.interchange
  interchanged enough = rw (count-seen s, le-ltb (temporaries s) 2 enough)

  pub nothing-done : did (Ok Finished) (perform s (jumps next)) ≡ carry s (plan.no_operation (seen s) next)
  unfolding plan.no_operation
  nothing-done = refl
