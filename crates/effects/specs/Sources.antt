-- Results on words: where a variable stands, the word of a result, and the segment after it was placed or its count raised.
-- Document 01: "variable loads, ASSIGN and RETURN share the old one", every other array is a new block. Assumes nothing.
use Rattle.std.specs.Prelude.{ℕ, ◌+◌, ◌-◌, ◌%◌, ◌^◌, List, get_or}
use Rattle.descriptor.specs.declared.Target.{Target}
use Rattle.descriptor.specs.declared.Target.TheVariants.{Local, Global}
use Rattle.descriptor.specs.Fields.{array_word, local_word, global_word, undefined_word}
use Rattle.segment.specs.State.{sbase, ltop}
use Rattle.storage.specs.Arrays.{place_at, place, share}
use Rattle.manual.specs.Effects.{Source, variable, operand, word, undefined_value, reference, made}

-- The segment address of a variable.
abbrev pub address_of : List ℕ → Target → ℕ
address_of s (Global g) = g.0
address_of s (Local a) = sbase s + a.0

abbrev pub held_at : List ℕ → Target → ℕ
held_at s t = get_or s (address_of s t) 0

-- The i-th operand from the top, from 0.
abbrev pub operand_at : List ℕ → ℕ → ℕ
operand_at s i = get_or s (sbase s + ltop s - i) 0

-- An indirect word has sixteen bits for the address.
abbrev pub reference_word : Target → ℕ
reference_word (Global g) = global_word (g.0 % 2 ^ 16)
reference_word (Local a) = local_word (a.0 % 2 ^ 16)

-- The word that a source gives, and the segment once it is placed, or shared where it was there already.
abbrev pub source_word : List ℕ → Source → ℕ
source_word s (variable t) = held_at s t
source_word s (operand i) = operand_at s i
source_word s (word w) = w
source_word s undefined_value = undefined_word
source_word s (reference t) = reference_word t
source_word s (made shape ravel) = array_word (place_at s shape ravel)

abbrev pub placed : List ℕ → Source → List ℕ
placed s (variable t) = share s (held_at s t)
placed s (operand i) = share s (operand_at s i)
placed s (word w) = s
placed s undefined_value = s
placed s (reference t) = s
placed s (made shape ravel) = place s shape ravel
