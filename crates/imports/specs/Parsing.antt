-- What the code hands back of a record: lengths and elements lie in two lent slices. Contracts of the crate cite it; a reader
-- need not believe it. Assumes nothing.
use Rattle.std.specs.Prelude.{ℕ, ◌<◌, ◌≤◌, List, take, Option, Some, None}
use Rattle.imports.specs.declared.parse.Record.{Record}
use Rattle.imports.specs.declared.parse.Record.TheVariants.{Load, Run}
use Rattle.imports.specs.Numbers.{Numbers, numbers, bad}
use Rattle.imports.specs.Records as file
use Rattle.imports.specs.Records.{FoundRecord, found, element_limit}

-- The first `count` words of `out` are the numbers.
abbrev pub read_numbers : Option ℕ → ℕ → List ℕ → Numbers
read_numbers (Some next) count out = numbers (take count out) next
read_numbers None count out = bad

abbrev pub parsed : Option Record → List ℕ → List ℕ → FoundRecord
parsed (Some (Load global rank count next)) lengths ravel = found (file.load global (take rank lengths) (take count ravel)) next
parsed (Some (Run budget next)) lengths ravel = found (file.run budget) next
parsed None lengths ravel = file.bad

-- What a caller may rely on: lengths and elements lie in the slices, and a record has a byte or more.
abbrev pub Few : Option Record → Type 0
Few (Some (Load global rank count next)) = (rank ≤ 15) × (count ≤ element_limit)
Few (Some (Run budget next)) = Unit {0}
Few None = Unit {0}

abbrev pub Advances : ℕ → Option Record → Type 0
Advances place (Some (Load global rank count next)) = place < next
Advances place (Some (Run budget next)) = place < next
Advances place None = Unit {0}

abbrev pub Usable : ℕ → Option Record → Type 0
Usable place r = Few r × Advances place r
