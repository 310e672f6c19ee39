-- Where variables stand, and the addresses that name them.
use Prim.Native.Nat.{ℕ, ◌+◌, ◌-◌, ◌*◌, ◌%◌, ◌^◌, ◌≤◌, ◌<◌}
use mathlib.Core.Path.{◌≡◌, ap, ◌∙◌}
use mathlib.Core.List.{List}
use lib.ListN.{length, get_or}
use borrow.Author.Tests.{le-ltb, lt-ltb, lt-leb}
use Rattle.std.proofs.Common.{Result, Ok, Err}
use Rattle.trap.specs.declared.Trap.{Trap}
use Rattle.trap.specs.Trap.{trap_of}
use Rattle.descriptor.specs.declared.Target.TheVariants.{Global}
use Rattle.descriptor.specs.Kinds.{segment}
use Rattle.segment.specs.State.{sbase, lbase, blockptr}
use Rattle.procedure.specs.Bytes.{byte_at}
use Rattle.procedure.specs.declared.header.Header.{Header}
use Rattle.instruction.specs.declared.Address.{Address}
use Rattle.instruction.specs.declared.Address.TheVariants as A
use Rattle.instruction.specs.declared.family.Family.{Family}
use Rattle.instruction.specs.declared.family.Family.TheVariants.{ShortLocal, LongLocal, LongGlobal}
use Rattle.instruction.specs.declared.cursor.Cursor.{Cursor}
use Rattle.instruction.specs.Reading.{cursor_at, fetch_byte, with_read}
use Rattle.instruction.specs.Variables.{long_local, long_global, address_in}
use Rattle.manual.specs.Seen.{variables_of}
use Rattle.manual.specs.Instructions.{resolve}
use Rattle.effects.specs.Seen.{seen}
use Rattle.fast_path.specs.Naming.{local_of, Stands, Names}

-- A byte that is there is fetched.
pub fetched : {A : Type 0} (code : List ℕ) (place : ℕ) (outside : A) (f : ℕ → Cursor → A) → place < length code → with_read (fetch_byte code (cursor_at place)) outside f ≡ f (byte_at code place) (cursor_at (place + 1))
unfolding fetch_byte
fetched code place outside f inside = simp (lt-ltb place (length code) inside)

module _ (s : List ℕ) where
  pub local-stands : (variables v : ℕ) {i : ℕ} → 1 ≤ v → v ≤ variables → i ≡ sbase s + (lbase s - v) → Stands s ((seen s).local variables v) (local_of s v) i
  unfolding seen
  local-stands variables v some inside at = record { resolves = rw (le-ltb v 1 some, le-ltb variables v inside); place = at }

  pub global-stands : (g : ℕ) {i : ℕ} → 8 ≤ g → g < blockptr s → i ≡ g → Stands s ((seen s).global g) (Global (segment g)) i
  unfolding seen
  global-stands g low high at = record { resolves = rw (le-ltb g 8 low, lt-leb (blockptr s) g high); place = at }

  -- A local of the current frame is that whatever header gives the frame so many variables.
  in_frame : (variables v : ℕ) {i : ℕ} → Stands s ((seen s).local variables v) (local_of s v) i
      → (h : Header) → variables_of h ≡ variables → Stands s (resolve (seen s) h (A.Local v)) (local_of s v) i
  in_frame variables v stands h same = record { resolves = ap (λ (n : ℕ). (seen s).local n v) same ∙ stands.resolves; place = stands.place }

  pub short-names : (code : List ℕ) (first at variables : ℕ) {family : Family} {i : ℕ} → family ≡ ShortLocal
      → Stands s ((seen s).local variables (64 - first % 2 ^ 6)) (local_of s (64 - first % 2 ^ 6)) i → Names s variables (address_in code (cursor_at at) first family) i
  unfolding address_in
  short-names code first at variables told stands =
      record {
        address = A.Local (64 - first % 2 ^ 6);
        end = cursor_at at;
        target = local_of s (64 - first % 2 ^ 6);
        fetches = rw told;
        stands = in_frame variables (64 - first % 2 ^ 6) stands;
      }

  module _ (code : List ℕ) (first at : ℕ) {family : Family} {bits i : ℕ} (inside : at < length code) (is : bits ≡ (first * 2 ^ 8 + get_or code at 0) % 2 ^ 12) where
    pub local-names : (variables : ℕ) → family ≡ LongLocal → Stands s ((seen s).local variables (4096 - bits)) (local_of s (4096 - bits)) i → Names s variables (address_in code (cursor_at at) first family) i
    unfolding address_in
    local-names variables told stands =
        record {
          address = A.Local (4096 - bits);
          end = cursor_at (at + 1);
          target = local_of s (4096 - bits);
          fetches = rw (told, is) (fetched {A = Result (Address × Cursor) Trap} code at (Err (trap_of 3 1)) (λ second next. Ok (long_local (first * 2 ^ 8 + second), next)) inside);
          stands = in_frame variables (4096 - bits) stands;
        }

    pub global-names : (variables : ℕ) → family ≡ LongGlobal → Stands s ((seen s).global bits) (Global (segment bits)) i → Names s variables (address_in code (cursor_at at) first family) i
    unfolding address_in
    global-names variables told stands =
        record {
          address = A.Global (record { 0 = bits });
          end = cursor_at (at + 1);
          target = Global (segment bits);
          fetches = rw (told, is) (fetched {A = Result (Address × Cursor) Trap} code at (Err (trap_of 3 1)) (λ second next. Ok (long_global (first * 2 ^ 8 + second), next)) inside);
          stands = λ h. λ same. stands;
        }
