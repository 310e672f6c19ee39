-- What stands at a place of the code, by the bytes that the fast path reads, and the plan of it.
use Prim.Native.Nat.{ℕ, ◌+◌, ◌-◌, ◌*◌, ◌/◌, ◌%◌, ◌^◌, ◌≤◌, ◌<◌}
use native.Mathlib.Omega.{arith}
use mathlib.Core.Path.{◌≡◌, subst, sym, ap, ◌∙◌}
use mathlib.Core.Bool.{Bool, true, false, cond}
use mathlib.Core.List.{List}
use lib.Dec.{ltb, eqb}
use lib.ListN.{length, get_or}
use borrow.Author.Tests.{le-ltb}
use Rattle.std.proofs.Common.{Option, Some, None, Result, Ok, Err}
use Rattle.trap.specs.declared.Trap.{Trap}
use Rattle.trap.specs.Trap.{trap_of}
use Rattle.descriptor.specs.Fields.{integer_word}
use Rattle.descriptor.specs.Kinds.{bit, is_scalar}
use Rattle.operator.specs.declared.Dyadic.{Dyadic}
use Rattle.operator.specs.declared.Monadic.{Monadic}
use Rattle.operator.specs.declared.Operator.{Operator}
use Rattle.operator.specs.declared.Operator.TheVariants as O
use Rattle.operator.specs.Table.{operator_of}
use Rattle.operator.specs.Lent.{operator_under}
use Rattle.operator.proofs.Numbers.{renames}
use Rattle.procedure.specs.declared.header.Header.{Header}
use Rattle.procedure.specs.Bytes.{byte_at}
use Rattle.instruction.specs.declared.Decoded.{Decoded}
use Rattle.instruction.specs.declared.Instruction.TheVariants as I
use Rattle.instruction.specs.declared.Jump.{Jump}
use Rattle.instruction.specs.declared.Jump.TheVariants as J
use Rattle.instruction.specs.declared.MemoryOperation.{MemoryOperation}
use Rattle.instruction.specs.declared.StackOperation.{StackOperation}
use Rattle.instruction.specs.declared.table.EtcSuboperation.{EtcSuboperation}
use Rattle.instruction.specs.declared.table.EtcSuboperation.TheVariants as E
use Rattle.instruction.specs.declared.family.Family.{Family}
use Rattle.instruction.specs.declared.family.Family.TheVariants.{ShortLocal, ShortConst, GenScalar, MemRef, Etc, LongLocal, LongGlobal}
use Rattle.instruction.specs.Families.{family_of}
use Rattle.instruction.specs.Tables.{memory_of, etc_of}
use Rattle.instruction.specs.declared.cursor.Cursor.{Cursor}
use Rattle.instruction.specs.Reading.{code_address, cursor_at, fetch_byte, fetch_half, fetch_word, with_read}
use Rattle.instruction.specs.Variables.{address_in, address_at}
use Rattle.instruction.specs.Lengths.{scalar_length, etc_length, length_in, fixed_bytes}
use Rattle.instruction.specs.Decoding.{done, decoded_to, load_at, short_constant_of, short_constant_at, scalar_at, memory_at, constant_scalar_at, jump_at, etc_at, family_at, instruction_at}
use Rattle.instruction.proofs.Lengths.{AddressEnds, address-ends}
use Rattle.manual.specs.Seen.{variables_of}
use Rattle.manual.specs.Effects.{word, Plan}
use Rattle.manual.specs.Loads as loads
use Rattle.manual.specs.Scalars as scalars
use Rattle.manual.specs.Control as control
use Rattle.manual.specs.Instructions.{Running, header_of, resolve, scalar_plan, memory_plan, stack_plan, jump_plan, plan_of, plan_decoded}
use Rattle.effects.specs.Seen.{seen}
use Rattle.fast_path.specs.Answers.{DoneOrKept}
use Rattle.fast_path.specs.Naming.{Names, assignment, assign_entry}
use Rattle.fast_path.proofs.Answers.{went-as}
use Rattle.fast_path.proofs.Standing.{fetched}

-- What is decoded is planned in `f`, and its plan was carried out or not.
abbrev Planned : List ℕ → Running → Bool → List ℕ → Result Decoded Trap → Type 0
Planned s f r t d = DoneOrKept s (plan_decoded f (seen s) d) r t

-- ---- two bytes, and the end of an address

module _ (code : List ℕ) where
  half-fetched : {A : Type 0} (at : ℕ) (outside : A) (g : ℕ → Cursor → A) → at + 1 < length code → with_read (fetch_half code (cursor_at at)) outside g ≡ g (byte_at code at * 2 ^ 8 + byte_at code (at + 1)) (cursor_at (at + 1 + 1))
  unfolding fetch_half
  half-fetched at outside g there =
      ap (λ (v : Option (ℕ × Cursor)). with_read v outside g)
      (fetched {A = Option (ℕ × Cursor)} code at None (λ b c. with_read (fetch_byte code c) None (λ l d. Some (b * 2 ^ 8 + l, d))) (omega arith)
      ∙ fetched {A = Option (ℕ × Cursor)} code (at + 1) None (λ l d. Some (byte_at code at * 2 ^ 8 + l, d)) there)

  -- An address ends where the load of its family would, were its first byte the instruction's.
  named_end : {s : List ℕ} {variables i : ℕ} (at first : ℕ) (family : Family) (named : Names s variables (address_in code (cursor_at at) first family) i) → named.end.at + 1 ≡ at + fixed_bytes (length_in family (first % 2 ^ 5))
  named_end at first family named =
      (subst (AddressEnds code at (at + fixed_bytes (length_in family (first % 2 ^ 5)))) named.fetches (address-ends code (cursor_at at) first (first % 2 ^ 5) family)).0

-- ---- what stands after the first byte

-- The cursor there.
abbrev after : ℕ → Cursor
after place = cursor_at (place + 1)

module _ (s : List ℕ) (f : Running) (place : ℕ) {r : Bool} {t : List ℕ} where
  -- GENSCALAR: what the table names for the manual's operator is what the number means under it.
  module _ {table : List ℕ} (n : ℕ) {o : Operator} {next : ℕ} (lent : f.program.table ≡ table) (means : operator_under table n ≡ Some o) (behind : next ≡ (place + fixed_bytes (scalar_length (operator_of n))) % 2 ^ 32) where
    scalar_by : {p : Plan} → p ≡ scalar_plan (seen s) next o → DoneOrKept s p r t → Planned s f r t (scalar_at (operator_of n) (after place))
    unfolding plan_of
    scalar_by same answer = let m = renames table n means in went-as (rw (same, behind, m.defined, lent, m.renamed)) answer

    pub dyadic-by : {op : Dyadic} → o ≡ O.Dyadic op → DoneOrKept s (scalars.dyadic (seen s) next op) r t → Planned s f r t (scalar_at (operator_of n) (after place))
    dyadic-by dyadic answer = scalar_by (rw dyadic) answer

    pub monadic-by : {op : Monadic} → o ≡ O.Monadic op → DoneOrKept s (scalars.monadic (seen s) next op) r t → Planned s f r t (scalar_at (operator_of n) (after place))
    monadic-by monadic answer = scalar_by (rw monadic) answer

  module _ (code : List ℕ) where
    -- SHORTCONST
    pub constant_by : (first : ℕ) {at next half w : ℕ} → at ≡ place → at + 1 < length code → half ≡ first * 2 ^ 8 + get_or code (at + 1) 0 → w ≡ integer_word (bit (eqb (half / 2 ^ 12 % 2) 1)) (half % 2 ^ 12) → next ≡ (place + 2) % 2 ^ 32 → DoneOrKept s (loads.push (seen s) next (word w)) r t → Planned s f r t (short_constant_at code (after place) first)
    unfolding short_constant_at plan_of loads.short_constant
    constant_by first {at} {next} {half} here inside whole is behind answer = went-as (rw (stands, is, short)) answer
      where
        short : half % 2 ^ 12 % 2 ^ 12 ≡ half % 2 ^ 12
        short = omega arith

        stands : with_read (fetch_byte code (after place)) (Err (trap_of 3 1)) (λ b c. decoded_to (short_constant_of (first * 2 ^ 8 + b)) c) ≡ done (short_constant_of half) (code_address next)
        stands =
            let on : at + 1 + 1 ≡ at + 2 = omega arith in
            rw (behind, ← here)
            (fetched code (at + 1) (Err (trap_of 3 1)) (λ b c. decoded_to (short_constant_of (first * 2 ^ 8 + b)) c) inside
            ∙ rw (on, whole))

    -- An address starts at `at`, after the first byte.
    module _ {at : ℕ} (here : at ≡ place + 1) where
      -- LONGLOCAL and LONGGLOBAL
      pub load-by : (first : ℕ) (family : Family) {variables i next : ℕ} (named : Names s variables (address_in code (cursor_at at) first family) i) → next ≡ (place + fixed_bytes (length_in family (first % 2 ^ 5))) % 2 ^ 32 → DoneOrKept s (loads.load (seen s) next (resolve (seen s) (header_of f) named.address)) r t → Planned s f r t (load_at code (after place) first family)
      unfolding load_at plan_of
      load-by first family named behind answer =
          let on : named.end.at ≡ place + fixed_bytes (length_in family (first % 2 ^ 5)) = let ends = named_end code at first family named in omega (arith, here, ends) in
          went-as (rw (← here, named.fetches, on, behind)) answer

      -- MEMREF: its address is named by the byte there.
      pub assign-by : {first : ℕ} (keep : Bool) → at < length code → first ≡ get_or code at 0 → (family : Family) {variables i begin next : ℕ} → begin ≡ (place + 1) % 2 ^ 32 → next ≡ (begin + fixed_bytes (length_in family (first % 2 ^ 5))) % 2 ^ 32 → family ≡ family_of first → (named : Names s variables (address_in code (cursor_at (at + 1)) first family) i) → DoneOrKept s (memory_plan (seen s) next (assignment keep) (resolve (seen s) (header_of f) named.address)) r t → Planned s f r t (memory_at code (after place) (assign_entry keep))
      unfolding memory_at address_at plan_of
      assign-by {first} keep inside second family {next = next} begins behind found named answer = went-as (rw (← here, stands, last)) answer
        where
          stands : with_read (fetch_byte code (cursor_at at)) (Err (trap_of 3 1)) (λ b c. address_in code c b (family_of b)) ≡ Ok (named.address, named.end)
          stands =
              fetched code at (Err (trap_of 3 1)) (λ b c. address_in code c b (family_of b)) inside
              ∙ rw (← second) (ap (address_in code (cursor_at (at + 1)) first) (sym found) ∙ named.fetches)

          last : next ≡ named.end.at % 2 ^ 32
          last = let ends = named_end code (at + 1) first family named in behind ∙ omega (arith, here, begins, ends)

    pub memory-by : {sub : Option MemoryOperation} (keep : Bool) → sub ≡ assign_entry keep → Planned s f r t (memory_at code (after place) (assign_entry keep)) → Planned s f r t (memory_at code (after place) sub)
    memory-by keep told answer = rw told answer

    -- ETC
    module _ {sub : Option EtcSuboperation} where
      pub etc-by : {jump : Jump} → sub ≡ Some (E.Jump jump) → Planned s f r t (jump_at code (after place) jump) → Planned s f r t (etc_at code (after place) sub)
      unfolding etc_at
      etc-by jumps answer = rw jumps answer

      pub stack-by : {op : StackOperation} {next : ℕ} → sub ≡ Some (E.Stack op) → next ≡ (place + fixed_bytes (etc_length sub)) % 2 ^ 32 → DoneOrKept s (stack_plan (seen s) next op) r t → Planned s f r t (etc_at code (after place) sub)
      unfolding etc_at plan_of
      stack-by told behind answer = went-as (rw (behind, told)) answer

      pub constant-in : sub ≡ Some E.ConstantScalar → Planned s f r t (constant_scalar_at code (after place)) → Planned s f r t (etc_at code (after place) sub)
      unfolding etc_at
      constant-in told answer = rw told answer

    -- CONSTANT_SCALAR
    pub constant-scalar-by : {at high low w next : ℕ} → at ≡ place → at + 1 + 3 < length code → high ≡ get_or code (at + 1) 0 * 2 ^ 8 + get_or code (at + 1 + 1) 0 → low ≡ get_or code (at + 1 + 2) 0 * 2 ^ 8 + get_or code (at + 1 + 3) 0 → w ≡ high * 2 ^ 16 + low → next ≡ (place + 5) % 2 ^ 32 → is_scalar w ≡ true → DoneOrKept s (loads.push (seen s) next (word w)) r t → Planned s f r t (constant_scalar_at code (after place))
    unfolding constant_scalar_at fetch_word plan_of loads.constant_scalar
    constant-scalar-by {at} {w = w} here inside upper lower is behind scalar answer = went-as (rw (stands, scalar, behind)) answer
      where
        stands : with_read {A = Option (ℕ × Cursor)} (fetch_half code (after place)) None (λ b c. with_read (fetch_half code c) None (λ l d. Some (b * 2 ^ 16 + l, d))) ≡ Some (w, cursor_at (place + 5))
        stands =
            let on : at + 1 + 1 + 1 ≡ at + 1 + 2 = omega arith in
            let third : at + 1 + 2 + 1 ≡ at + 1 + 3 = omega arith in
            let end : at + 1 + 2 + 1 + 1 ≡ at + 5 = omega arith in
            rw (← here)
            (half-fetched code {A = Option (ℕ × Cursor)} (at + 1) None (λ b c. with_read (fetch_half code c) None (λ l d. Some (b * 2 ^ 16 + l, d))) (omega arith)
            ∙ rw (on, is, upper, lower, ← third, ← end) (half-fetched code {A = Option (ℕ × Cursor)} (at + 1 + 2) None (λ l d. Some ((byte_at code (at + 1) * 2 ^ 8 + byte_at code (at + 1 + 1)) * 2 ^ 16 + l, d)) (omega arith)))

    -- GO, GO_TRUE and GO_FALSE, of a function with the header h
    module _ {h : Header} {kind : Jump} {at number to next : ℕ} (of : header_of f ≡ h) (here : at ≡ place) (inside : at + 1 + 1 < length code) (is : number ≡ get_or code (at + 1) 0 * 2 ^ 8 + get_or code (at + 1 + 1) 0) (made : to ≡ number) (behind : next ≡ (place + 3) % 2 ^ 32) where
      planned : (jump : Jump) {p : Plan} → kind ≡ jump → p ≡ jump_plan f (seen s) next jump to → DoneOrKept s p r t → Planned s f r t (jump_at code (after place) kind)
      unfolding jump_at plan_of
      planned jump told same answer = went-as (rw (told, same) (sym (ap (plan_decoded f (seen s)) stands))) answer
        where
          stands : with_read (fetch_half code (after place)) (Err (trap_of 3 1)) (λ b c. decoded_to (I.Jump jump (code_address b)) c) ≡ done (I.Jump jump (code_address to)) (code_address next)
          stands =
              let on : at + 1 + 1 + 1 ≡ at + 3 = omega arith in
              rw (behind, ← here)
              (half-fetched code (at + 1) (Err (trap_of 3 1)) (λ b c. decoded_to (I.Jump jump (code_address b)) c) inside
              ∙ rw (on, made, is))

      pub go-by : kind ≡ J.Go → DoneOrKept s (control.go h to) r t → Planned s f r t (jump_at code (after place) kind)
      go-by told answer = planned J.Go told (rw of) answer

      pub go-true-by : kind ≡ J.GoTrue → DoneOrKept s (control.go_if (seen s) h next true to) r t → Planned s f r t (jump_at code (after place) kind)
      go-true-by told answer = planned J.GoTrue told (rw of) answer

      pub go-false-by : kind ≡ J.GoFalse → DoneOrKept s (control.go_if (seen s) h next false to) r t → Planned s f r t (jump_at code (after place) kind)
      go-false-by told answer = planned J.GoFalse told (rw of) answer

-- ---- the families

module _ (s : List ℕ) (f : Running) (code : List ℕ) (place : ℕ) {at first : ℕ} {family : Family} (here : at ≡ place) (low : 8 ≤ at) (inside : at < length code) (is : first ≡ get_or code at 0) (found : family ≡ family_of first) {r : Bool} {t : List ℕ} where
  family-at : (k : Family) → family ≡ k → Planned s f r t (family_at code (after place) first k) → Planned s f r t (instruction_at code place)
  unfolding instruction_at
  family-at k told answer = went-as (ap (plan_decoded f (seen s)) (sym stands)) answer
    where
      stands : cond (ltb place 8) (Err (trap_of 3 1)) (with_read (fetch_byte code (cursor_at place)) (Err (trap_of 3 1)) (λ b next. family_at code next b (family_of b))) ≡ family_at code (after place) first k
      stands =
          rw (← here, le-ltb at 8 low)
          (fetched code at (Err (trap_of 3 1)) (λ b next. family_at code next b (family_of b)) inside
          ∙ rw (← is, ← found, told))

  pub short-local-at : {variables next : ℕ} → family ≡ ShortLocal → variables ≡ variables_of (header_of f) → next ≡ (place + 1) % 2 ^ 32 → DoneOrKept s (loads.load (seen s) next ((seen s).local variables (64 - first % 2 ^ 6))) r t → Planned s f r t (instruction_at code place)
  unfolding family_at load_at address_in plan_of
  short-local-at told same behind answer = family-at ShortLocal told (went-as (rw (behind, same)) answer)

  pub long-local-at : family ≡ LongLocal → Planned s f r t (load_at code (after place) first LongLocal) → Planned s f r t (instruction_at code place)
  unfolding family_at
  long-local-at told answer = family-at LongLocal told answer

  pub long-global-at : family ≡ LongGlobal → Planned s f r t (load_at code (after place) first LongGlobal) → Planned s f r t (instruction_at code place)
  unfolding family_at
  long-global-at told answer = family-at LongGlobal told answer

  pub constant-at : family ≡ ShortConst → Planned s f r t (short_constant_at code (after place) first) → Planned s f r t (instruction_at code place)
  unfolding family_at
  constant-at told answer = family-at ShortConst told answer

  pub scalar-at : family ≡ GenScalar → Planned s f r t (scalar_at (operator_of (first % 2 ^ 5)) (after place)) → Planned s f r t (instruction_at code place)
  unfolding family_at
  scalar-at told answer = family-at GenScalar told answer

  pub memory-at : {sub : Option MemoryOperation} → family ≡ MemRef → sub ≡ memory_of (first % 2 ^ 5) → Planned s f r t (memory_at code (after place) sub) → Planned s f r t (instruction_at code place)
  unfolding family_at
  memory-at told named answer = family-at MemRef told (rw (← named) answer)

  pub etc-at : family ≡ Etc → Planned s f r t (etc_at code (after place) (etc_of (first % 2 ^ 5))) → Planned s f r t (instruction_at code place)
  unfolding family_at
  etc-at told answer = family-at Etc told answer
