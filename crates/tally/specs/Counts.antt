-- Counts by family. Document 02, paper 1: "A tally lent to the replay goes up by one per finished instruction in its family of
-- eight. It is zeroed first, and a count that reaches 4,294,967,295 stays there." A tally is eight counts, in document 01's order
-- of first bytes. Assumes nothing.
use Rattle.std.specs.Prelude.{ℕ, ◌+◌, ◌-◌, ◌^◌, min, cond, List, [], ◌∷◌, ltb, get_or, set, replicate}
use Rattle.instruction.specs.Families.{family_of, order_of}
use Rattle.tally.specs.declared.Tally.{Tally}

abbrev pub count_limit : ℕ
count_limit = 2 ^ 32 - 1

abbrev pub none_counted : List ℕ
none_counted = replicate 8 0

-- The count at a place goes up by one, and stays at the limit. Counts that are not lent stay none.
unfoldable pub count_up : ℕ → List ℕ → List ℕ
count_up i counts = cond (ltb (get_or counts i 0) count_limit) (set counts i (get_or counts i 0 + 1)) counts

-- An instruction with that first byte has finished. None starts with a byte of no family, and no count has the place of these.
unfoldable pub counted : ℕ → List ℕ → List ℕ
counted first counts = count_up (order_of (family_of first)) counts

-- ---- the struct

abbrev pub counts_of : Tally → List ℕ
counts_of t = t.short_local ∷ t.short_const ∷ t.gen_scalar ∷ t.mem_ref ∷ t.etc ∷ t.long_local ∷ t.long_global ∷ t.index ∷ []

abbrev pub tally_of : List ℕ → Tally
tally_of counts = record {
  short_local = get_or counts 0 0;
  short_const = get_or counts 1 0;
  gen_scalar = get_or counts 2 0;
  mem_ref = get_or counts 3 0;
  etc = get_or counts 4 0;
  long_local = get_or counts 5 0;
  long_global = get_or counts 6 0;
  index = get_or counts 7 0;
}

-- Both counts of a family, up to the limit.
abbrev pub count_sum : ℕ → ℕ → ℕ
count_sum a b = min (a + b) count_limit

unfoldable pub added : Tally → Tally → Tally
added t more = record {
  short_local = count_sum t.short_local more.short_local;
  short_const = count_sum t.short_const more.short_const;
  gen_scalar = count_sum t.gen_scalar more.gen_scalar;
  mem_ref = count_sum t.mem_ref more.mem_ref;
  etc = count_sum t.etc more.etc;
  long_local = count_sum t.long_local more.long_local;
  long_global = count_sum t.long_global more.long_global;
  index = count_sum t.index more.index;
}
