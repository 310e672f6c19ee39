use Prim.Native.Nat.{ℕ, ◌+◌, ◌%◌, ◌^◌}
use mathlib.Core.Path.{ap, ◌∙◌}
use Rattle.instruction.specs.Lengths.{fixed_bytes}
use Rattle.fast_path.proofs.after.Goals as goal

pub returns : goal.returns
returns c = let place = c.args.place.0 in
    c.further.ensures ∙ ap (λ (n : ℕ). (place + n) % 2 ^ 32) (c.bytes.ensures ∙ ap fixed_bytes c.length_in.ensures)
