-- The theorems of specs/Theorems.
use Rattle.effects_theorems.specs.Theorems.{EffectsTheorems}
use Rattle.effects_theorems.proofs.Effects.{perform-theorem, kept-theorem, flags-theorem}
use Rattle.effects_theorems.proofs.Lists.{performs-theorem, all-kept-theorem, full-theorem}
use Rattle.effects_theorems.proofs.Others.{others-theorem, all-others-theorem}
use Rattle.effects_theorems.proofs.Standing.{stands-theorem}
use Rattle.effects_theorems.proofs.Seen.{seen-theorem, local-theorem, global-theorem}

pub effects-theorems : EffectsTheorems
effects-theorems = record {
  performed = perform-theorem;
  others = others-theorem;
  kept = kept-theorem;
  flags_kept = flags-theorem;
  all_performed = performs-theorem;
  all_kept = all-kept-theorem;
  all_others = all-others-theorem;
  stands = stands-theorem;
  full = full-theorem;
  alike = seen-theorem;
  local = local-theorem;
  global = global-theorem;
}
