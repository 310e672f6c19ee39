use Prim.Native.Nat.{ℕ}
use Rattle.operator.specs.declared.Dyadic.{Dyadic}
use Rattle.scalar.specs.Operators.{dyadic_of}
use Rattle.manual.specs.OrTrap.{OrTrap}
use Rattle.manual.specs.Values.{answered, zip, spread}
use Rattle.elements.proofs.Collecting.{Exact}
use Rattle.elements.proofs.dyadic.exact.Given as goal

-- what is done with a pair of elements
abbrev pub applied : Dyadic → ℕ → ℕ → OrTrap ℕ
applied op x y = answered (dyadic_of op x y)

abbrev pub invariant-loop-i : goal.invariant-loop-i
invariant-loop-i l = Exact (zip (applied l.op) (spread l.n l.a) (spread l.n l.b)) l.n l.initial.out l.out l.i
