use native.Mathlib.Omega.{arith}
use Rattle.acceptance_storage.proofs.Tallies.{zeros}
use Rattle.acceptance.proofs.judge_within.Goals as goal

pub judge_storage-requires : goal.judge_storage-requires
judge_storage-requires g c = (
  c.requires.0,
  omega (arith, c.requires.1, c.requires.2),
  record
      { long = omega (arith, c.requires.1); empty = zeros _ },
  record
      { long = omega (arith, c.requires.1); empty = zeros _ },
)
