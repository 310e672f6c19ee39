-- Every effect of a plan meets a machine where it may be performed.
use Prim.Native.Nat.{ℕ, ◌%◌, ◌^◌}
use mathlib.Core.Path.{◌≡◌, sym, subst}
use mathlib.Core.Bool.{Bool, true, false, cond}
use mathlib.Core.List.{List}
use native.Mathlib.Omega.{arith}
use lib.Dec.{eqb}
use Rattle.descriptor.proofs.Truth.{bit_below}
use Rattle.instruction.specs.declared.Address.{Address}
use Rattle.instruction.specs.declared.Instruction.{Instruction}
use Rattle.segment.specs.Cells.{Cell, undefined, indirect, value as holds, invalid}
use Rattle.segment.specs.Machine.{Machine}
use Rattle.manual.specs.OrTrap.{gives}
use Rattle.manual.specs.Values as values
use Rattle.manual.specs.Values.{Value}
use Rattle.manual.specs.Effects.{Source, word, made, Effect, look, meant, jump}
use Rattle.manual.specs.Seen.{Seen, Variable, seen_of}
use Rattle.manual.specs.Scalars.{value_of, result_source}
use Rattle.manual.specs.Control.{frame_word}
use Rattle.manual.specs.Instructions.{Running, plan_of}
use Rattle.manual.specs.Cases.{OfPlan, Reaches, called_by, Calling, Pushed, of_load, of_reference, of_test_defined, of_undefined, of_get_origin, of_short_constant, of_constant_scalar, of_constant_vector}
use Rattle.manual.proofs.Cases.{plan-cases}
use Rattle.legality.specs.Legal.{DirectCell, NamesDirect, Allowed, Legal}
use Rattle.legality.specs.Kept.{RunsIn}
use Rattle.legality.proofs.Legal.{direct-allowed}
use Rattle.legality.proofs.Effects.{CanEnter}
use Rattle.legality.proofs.Steps.{AllMeet}
use Rattle.legality.proofs.Resolved.{reached-leads}
use Rattle.legality.proofs.Called.{can-enter}

-- A cell that has a value is no indirect word.
value-direct : (c : Cell) (a : Value) → value_of c ≡ gives a → DirectCell c
value-direct undefined a e = tt
value-direct (indirect t) a e = let z : ◌≡◌ {A = ℕ} 0 1 = cc in omega arith
value-direct (holds shape ravel) a e = tt
value-direct invalid a e = let z : ◌≡◌ {A = ℕ} 0 1 = cc in omega arith

module _ {regular alternate : List ℕ} {m : Machine Cell} (g : Legal regular alternate m) (words : ℕ) (f : Running) (runs : RunsIn regular alternate f m) where
  abbrev seen : Seen
  seen = seen_of words m

  abbrev Pushable : Source → Type 0
  Pushable source = Allowed regular alternate m m.frames (meant source m)

  reached : (a : Address) (x : Variable) → Reaches f seen a x → NamesDirect regular alternate m m.frames x.place
  reached a x r = reached-leads g words f runs a x r

  pushed-allowed : {i : Instruction} {source : Source} → Pushed f seen i source → Pushable source
  pushed-allowed (of_load {a} {x} r e) = direct-allowed regular alternate m m.frames (look undefined x.place m) (reached a x r).direct
  pushed-allowed (of_reference {a} {x} r) = reached a x r
  pushed-allowed (of_test_defined r) = tt
  pushed-allowed of_undefined = tt
  pushed-allowed of_get_origin = tt
  pushed-allowed of_short_constant = tt
  pushed-allowed (of_constant_scalar h) = tt
  pushed-allowed (of_constant_vector h) = tt

  result-allowed : (v : Value) → Pushable (result_source v)
  result-allowed v = by (eqb (values.rank v) 0)
    where
      by : (b : Bool) → Pushable (cond b (word (values.first v.ravel)) (made v.shape v.ravel))
      by true = tt
      by false = tt

  called : (next arguments : ℕ) (selector : Bool) (number : ℕ) → Calling f seen arguments selector number
      → CanEnter regular alternate (called_by f selector number).nlocals (frame_word selector (number % 2 ^ 11)) (jump (next % 2 ^ 16) m)
  unfolding seen_of
  called next arguments selector number c =
      rw (sym runs.regular_segment, sym runs.alternate_segment)
      (can-enter (number % 2 ^ 11) (omega arith) f.program.regular f.program.alternate selector (jump (next % 2 ^ 16) m) c.found
      (omega (arith, c.wanted, c.given)))

  pub plan-meets : (i : Instruction) (next : ℕ) (es : List Effect) → plan_of f seen i next ≡ gives es → AllMeet regular alternate es m
  unfolding seen_of
  plan-meets i next es e =
      subst (OfPlan (λ es. AllMeet regular alternate es m) (λ class number. Unit {0})) e
      (plan-cases f seen i next (λ es. AllMeet regular alternate es m) (λ class number. Unit {0})
      (record {
        unresolved = λ a class number e. tt;
        stopped = λ class number l. tt;
        pushed = λ p r. (pushed-allowed p, (tt, tt));
        result = λ {n} {v} r o c. (result-allowed v, (tt, tt));
        origin = λ a b e c p t. (bit_below b, (tt, (tt, tt)));
        assigned = λ a x v e r c p. (value-direct (seen.operand 0) v p, (tt, tt));
        assigned_no_result = λ a x v e r c p. (value-direct (seen.operand 0) v p, (tt, (tt, tt)));
        assigned_element = λ rank a x k e c p. ((reached a x p.reaches).direct, (tt, tt));
        interchanged = λ e c. (tt, (tt, tt));
        gone = λ t. (tt, tt);
        dropped = λ c t. (tt, (tt, tt));
        left = λ l. (l.below, tt);
        left_dropping = λ c l. (tt, (l.below, tt));
        entered = λ arguments selector number e c. (tt, (called next arguments selector number c, tt));
      }))
