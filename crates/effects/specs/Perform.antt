-- Each effect on the words of a segment, in document 01's order: "Results are placed before operands are released, first operand
-- first; RETURN releases its cells from the highest address down. Cells popped, free interiors and slop keep their words."
-- Decisions 28–31 and 37 of docs/DECISIONS.md settle the rest, so that every word is determined. Assumes nothing.
use Rattle.std.specs.Prelude.{ℕ, ◌+◌, ◌-◌, ◌%◌, ◌^◌, Bool, false, cond, ◌||◌, List, [], ◌∷◌, ◌++◌, leb, ltb, eqb, get_or, set, replicate}
use Rattle.std.proofs.lemmas.List.Edits.{sets}
use Rattle.descriptor.specs.declared.Target.{Target}
use Rattle.descriptor.specs.Fields.{address, undefined_word}
use Rattle.segment.specs.State.{sbase, ltop, lbase, set_ltop, set_lbase, set_iorg}
use Rattle.segment.specs.Stack.{last_lbase_at, set_pctr}
use Rattle.segment.specs.Blocks.{count_at, rank_at, shape_at, elements_at, need}
use Rattle.storage.specs.Request.{request_at}
use Rattle.storage.specs.Arrays.{share, drop_word, drop_words}
use Rattle.manual.specs.Effects.{Source, variable, operand, word, undefined_value, reference, made, Effect, replaces, discards, swaps, stores, stores_element, enters, leaves, jumps, sets_origin}
use Rattle.effects.specs.Sources.{address_of, operand_at, source_word, placed}

-- The cell of the n-th operand from the top, from 1: where n operands start.
abbrev pub bottom_of : List ℕ → ℕ → ℕ
bottom_of s n = sbase s + ltop s + 1 - n

-- `w` goes to the stack's cell at `b`, and the stack ends there.
unfoldable pub finish : List ℕ → ℕ → ℕ → List ℕ
finish s b w = set (set_ltop s (b - sbase s)) b w

unfoldable pub replace : List ℕ → ℕ → Source → List ℕ
replace s n source = finish (drop_words n (placed s source) (bottom_of s n)) (bottom_of s n) (source_word s source)

unfoldable pub discard : List ℕ → ℕ → List ℕ
discard s n = set_ltop (drop_words n s (bottom_of s n)) (ltop s - n)

unfoldable pub swap : List ℕ → List ℕ
swap s = set (set s (sbase s + ltop s) (operand_at s 1)) (sbase s + ltop s - 1) (operand_at s 0)

-- A result goes into the cell at `i`: it is placed or its count is raised, it is stored, the old value is released.
unfoldable pub store_at : List ℕ → ℕ → Source → List ℕ
store_at s i source = drop_word (set (placed s source) i (source_word s source)) (get_or s i 0)

unfoldable pub store : List ℕ → Target → Source → List ℕ
store s t source = store_at s (address_of s t) source

-- "ASSIGN_INDEXED into a block counted twice or more copies it first; counted once, it is written there."
abbrev pub block_of : List ℕ → ℕ → ℕ
block_of s i = address (get_or s i 0)

unfoldable pub unshare : List ℕ → ℕ → List ℕ
unshare s i =
    cond (leb 2 (count_at s (block_of s i)))
    (store_at s i (made (shape_at s (block_of s i)) (elements_at s (block_of s i))))
    s

unfoldable pub write_element : List ℕ → ℕ → ℕ → ℕ → List ℕ
write_element s i place w = set s (block_of s i + 2 + rank_at s (block_of s i) + place) w

unfoldable pub store_element : List ℕ → Target → ℕ → ℕ → ℕ → List ℕ
store_element s t place w n = replace (write_element (unshare s (address_of s t)) (address_of s t) place w) n (variable t)

-- A new frame on top of the arguments: undefined locals, last LBASE, the function's word.
unfoldable pub enter : List ℕ → ℕ → ℕ → List ℕ
enter s n f =
    set_lbase
    (set_ltop
    (sets s (sbase s + ltop s + 1) (replicate n undefined_word ++ (lbase s ∷ f ∷ [])))
    (ltop s + n + 2))
    (ltop s + n + 1)

-- The current frame goes with the n variables under its two words; its result takes the place of the lowest. LBASE has sixteen
-- bits.
abbrev pub leaving_start : List ℕ → ℕ → ℕ
leaving_start s n = sbase s + lbase s - n

unfoldable pub leave_with : List ℕ → ℕ → List ℕ
leave_with s n =
    let w = get_or s (sbase s + lbase s - 1) 0 in
    set (set_lbase (set_ltop (drop_words n (share s w) (leaving_start s n)) (lbase s - n)) (last_lbase_at s (lbase s) % 2 ^ 16)) (leaving_start s n) w

unfoldable pub leave_without : List ℕ → ℕ → List ℕ
leave_without s n = set_lbase (set_ltop (drop_words n s (leaving_start s n)) (lbase s - n - 1)) (last_lbase_at s (lbase s) % 2 ^ 16)

abbrev pub perform : List ℕ → Effect → List ℕ
perform s (replaces n source) = replace s n source
perform s (discards n) = discard s n
perform s swaps = swap s
perform s (stores t source) = store s t source
perform s (stores_element t place w n) = store_element s t place w n
perform s (enters n f) = enter s n f
perform s (leaves n result) = cond result (leave_with s n) (leave_without s n)
perform s (jumps place) = set_pctr s (place % 2 ^ 16)
perform s (sets_origin v) = set_iorg s v

abbrev pub performs : List ℕ → List Effect → List ℕ
performs s [] = s
performs s (e ∷ es) = performs (perform s e) es

-- ---- storage full

-- The SIZE of the block that an effect would place; 0 for none.
abbrev pub source_need : Source → ℕ
source_need (variable t) = 0
source_need (operand i) = 0
source_need (word w) = 0
source_need undefined_value = 0
source_need (reference t) = 0
source_need (made shape ravel) = need shape ravel

abbrev pub wanted : List ℕ → Effect → ℕ
wanted s (replaces n source) = source_need source
wanted s (discards n) = 0
wanted s swaps = 0
wanted s (stores t source) = source_need source
wanted s (stores_element t place w n) =
    cond (leb 2 (count_at s (block_of s (address_of s t))))
    (need (shape_at s (block_of s (address_of s t))) (elements_at s (block_of s (address_of s t))))
    0
wanted s (enters n f) = 0
wanted s (leaves n result) = 0
wanted s (jumps place) = 0
wanted s (sets_origin v) = 0

-- No free block is long enough: the search finds none, or more is asked for than the longest segment has.
abbrev pub none_for : List ℕ → ℕ → Bool
none_for s size = ltb 16384 size || eqb (request_at s size) 0

abbrev pub is_full : List ℕ → Effect → Bool
is_full s e = cond (eqb (wanted s e) 0) false (none_for s (wanted s e))

-- Of a plan only the first effect may ask for a block.
abbrev pub first_full : List ℕ → List Effect → Bool
first_full s [] = false
first_full s (e ∷ es) = is_full s e
