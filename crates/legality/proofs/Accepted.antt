-- The theorems of specs/Accepted.
use Rattle.legality.specs.Accepted.{LegalTheorems}
use Rattle.legality.proofs.Split.{split}
use Rattle.legality.proofs.Join.{join}
use Rattle.legality.proofs.Runs.{runs}

pub legal-theorems : LegalTheorems
legal-theorems = record { split = split; join = join; runs = runs }
