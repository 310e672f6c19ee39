use mathlib.Core.List.{[]}
use Rattle.manual.specs.Control.{go}
use Rattle.instructions_control.proofs.Jumping.{jump_out, jump_in}
use Rattle.instructions_control.proofs.jumps.go.Goals as goal

pub returns-then-outside : goal.returns-then-outside
unfolding go
returns-then-outside c = let a = c.args in jump_out a.seg.now a.h a.place.0 [] (cc)

pub returns : goal.returns
unfolding go
returns c = let a = c.args in jump_in a.seg.now a.h a.place.0 (cc) (cc)
