-- A segment has a fault exactly where a test refuses it; and the first fault of a run of functions is the one at hand, or that
-- of the others.
use mathlib.Core.Path.{◌≡◌, refl, sym, ◌∙◌, ap}
use mathlib.Core.Bool.{Bool, true, false, not, ◌&&◌, ◌||◌, not-not}
use mathlib.Core.List.{List}
use Rattle.std.specs.Prelude.{Result, Ok, Err, ⊤}
use Prim.Native.Nat.{ℕ, zero, suc, ◌+◌, ◌-◌, ◌*◌, ◌≤◌, ◌<◌}
use lib.ListN.{length}
use lib.Dec.{leb, eqb}
use native.Mathlib.Omega.{arith}
use Rattle.procedure.specs.declared.refusal.Fault.{Fault}
use Rattle.procedure.specs.declared.refusal.Fault.TheVariants as F
use Rattle.procedure.specs.declared.refusal.FunctionFault.TheVariants as W
use Rattle.procedure.specs.Bytes.{word_at}
use Rattle.procedure.specs.Headers.{unnamed_bits}
use Rattle.procedure.specs.Directory.{start_of, length_of, entries, header_of_function, nargs_of, nlocals_of, result_of}
use Rattle.procedure.specs.Refusal.{entries_test, block_length, result_has_local, header_test, function_passes, functions_pass, contents_test}
use Rattle.procedure.specs.Faults.{unless, header_fault, function_fault, functions_fault, contents_fault, or_else, refuses}

-- One test after another: a fault where one fails.
told : (k : ℕ) (start end long bits arguments local variables : Bool)
    → refuses
    (unless start (F.Function k W.Start)
    (unless end (F.Function k W.End)
    (unless long (F.Function k W.Length)
    (unless bits (F.Function k W.UnnamedBits)
    (unless arguments (F.Function k W.Arguments)
    (unless local (F.Function k W.ResultLocal) (unless variables (F.Function k W.Variables) (Ok tt))))))))
    ≡ not (start && end && (long && bits && arguments && local && variables))
told k true true true true true true true = refl
told k true true true true true true false = refl
told k true true true true true false v = refl
told k true true true true false l v = refl
told k true true true false a l v = refl
told k true true false b a l v = refl
told k true false n b a l v = refl
told k false e n b a l v = refl

function-told : (p : List ℕ) (k : ℕ) → refuses (function_fault p k) ≡ not (function_passes p k)
unfolding function_fault header_fault function_passes header_test
function-told p k =
    told k
    (leb (entries p) (start_of p k))
    (leb (4 * (start_of p k + length_of p k)) (length p))
    (eqb (length_of p k) (block_length (header_of_function p k)))
    (eqb (unnamed_bits (word_at p (4 * start_of p k))) 0)
    (leb (nargs_of p k) 15)
    (result_has_local (result_of p k) (nlocals_of p k))
    (leb (nargs_of p k + nlocals_of p k) 4096)

first-told : (f others : Result ⊤ Fault) (t u : Bool) → refuses f ≡ not t → refuses others ≡ not u → refuses (or_else f others) ≡ not (t && u)
first-told f others t u e h = or-else f ∙ rw (e, h) (de-morgan t)
  where
    or-else : (f : Result ⊤ Fault) → refuses (or_else f others) ≡ (refuses f || refuses others)
    or-else (Ok sound) = refl
    or-else (Err wrong) = refl

    de-morgan : (t : Bool) → (not t || not u) ≡ not (t && u)
    de-morgan true = refl
    de-morgan false = refl

functions-told : (p : List ℕ) (n k : ℕ) → refuses (functions_fault n p k) ≡ not (functions_pass n p k)
unfolding functions_fault functions_pass
functions-told p zero k = refl
functions-told p (suc n) k = first-told (function_fault p k) (functions_fault n p (k + 1)) (function_passes p k) (functions_pass n p (k + 1)) (function-told p k) (functions-told p n (k + 1))

pub contents-told : (p : List ℕ) → refuses (contents_fault p) ≡ not (contents_test p)
unfolding contents_fault contents_test
contents-told p = directory (entries_test p)
  where
    directory : (t : Bool) → refuses (unless t F.Entries (functions_fault (entries p - 1) p 1)) ≡ not (t && functions_pass (entries p - 1) p 1)
    directory true = functions-told p (entries p - 1) 1
    directory false = refl

pub contents_tested : (p : List ℕ) → contents_test p ≡ not (refuses (contents_fault p))
contents_tested p = sym (not-not (contents_test p)) ∙ ap not (sym (contents-told p))

module _ (p : List ℕ) (end k : ℕ) where
  left : k < end → functions_fault (end - k) p k ≡ or_else (function_fault p k) (functions_fault (end - (k + 1)) p (k + 1))
  unfolding functions_fault
  left h = let e : end - k ≡ suc (end - (k + 1)) = omega arith in rw e

  pub at-fault : {wrong : Fault} → k < end → function_fault p k ≡ Err wrong → functions_fault (end - k) p k ≡ Err wrong
  at-fault h e = left h ∙ (rw e)

  pub past-sound : {sound : ⊤} → k < end → function_fault p k ≡ Ok sound
      → functions_fault (end - k) p k ≡ functions_fault (end - (k + 1)) p (k + 1)
  past-sound h e = left h ∙ (rw e)

  pub none_left : end ≤ k → functions_fault (end - k) p k ≡ Ok tt
  unfolding functions_fault
  none_left h = let e : end - k ≡ zero = omega arith in rw e
