-- The theorems of first bytes and of decoding.
use Rattle.instruction_theorems.specs.FirstBytes.{FirstBytes}
use Rattle.instruction_theorems.specs.Theorems.{Decoding}
use Rattle.instruction_theorems.proofs.FirstBytes.{one-range, sorted, varies}
use Rattle.instruction_theorems.proofs.Measured.{lengths, advances}
use Rattle.instruction_theorems.proofs.Confined.{confined}
use Rattle.instruction_theorems.proofs.Encoded.{encoded}

pub first-bytes : FirstBytes
first-bytes = record { one-range = one-range; sorted = sorted; lengths = lengths; varies = varies }

pub decoding : Decoding
decoding = record { confined = confined; advances = advances; encoded = encoded }
