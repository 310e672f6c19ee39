-- Test 17, a cell's kind or target: "Indirect words stand only in arguments (target a global or a variable of an older frame)
-- and temporaries (own frame too), and never target a cell holding another. Undefined may stand in any cell.", with decision 9
-- of docs/DECISIONS.md. Assumes nothing.
use Rattle.std.specs.Prelude.{ℕ, zero, suc, ◌+◌, ◌-◌, ◌/◌, ◌%◌, ◌^◌, Bool, true, false, cond, not, ◌&&◌, List, [], ◌∷◌, ◌++◌, get_or, length, leb, ltb, eqb}
use Rattle.descriptor.specs.Fields.{is_array, address, undefined_word}
use Rattle.descriptor.specs.Kinds.{is_scalar}
use Rattle.segment.specs.State.{sbase, ltop, lbase, blockptr}
use Rattle.segment.specs.Stack.{last_lbase_at, code_word_at}
use Rattle.storage.specs.Heap.{count}
use Rattle.acceptance_storage.specs.Tests.{words_where}
use Rattle.acceptance_storage.specs.Blocks.{array_starts}
use Rattle.acceptance.specs.Frames.{arguments, variables}

-- How often a number stands in a table, and in a list.
abbrev pub in_table : List ℕ → ℕ → ℕ
in_table t x = get_or t x 0

abbrev pub in_list : List ℕ → ℕ → ℕ
in_list l x = count x l

-- An indirect word; bit 16 is set for a global.
abbrev pub is_indirect : ℕ → Bool
is_indirect w = eqb (w / 2 ^ 17) 0x180

abbrev pub names_global : ℕ → Bool
names_global w = eqb (w / 2 ^ 16 % 2) 1

-- A scalar, undefined, or the word of an array, where `arrays` says how often an address is the start of one.
unfoldable pub direct : (ℕ → ℕ) → ℕ → Bool
direct arrays w = cond (is_scalar w) true (cond (eqb w undefined_word) true (is_array w && leb 1 (arrays (address w))))

-- An indirect word whose target is a global, or a variable by `variable`, and holds no indirect word.
unfoldable pub pointing : List ℕ → (ℕ → ℕ) → ℕ → Bool
pointing s variable w =
    is_indirect w
    && cond (names_global w)
    (leb 8 (address w) && ltb (address w) (blockptr s) && not (is_indirect (get_or s (address w) 0)))
    (leb 1 (variable (address w)) && not (is_indirect (get_or s (sbase s + address w) 0)))

-- A cell of a global or a local; and one of an argument or a temporary.
abbrev pub plain_cell : (ℕ → ℕ) → ℕ → Bool
plain_cell arrays w = direct arrays w

unfoldable pub free_cell : List ℕ → (ℕ → ℕ) → (ℕ → ℕ) → ℕ → Bool
free_cell s arrays variable w = cond (direct arrays w) true (pointing s variable w)

-- The stack addresses from `a` on.
abbrev pub range : ℕ → ℕ → List ℕ
range a zero = []
range a (suc n) = a ∷ range (a + 1) n

-- The variables of the frames from the one at `base` down.
unfoldable pub variables_from : ℕ → (ℕ → ℕ) → List ℕ → ℕ → List ℕ
variables_from zero size s base = []
variables_from (suc fuel) size s base =
    let older = variables_from fuel size s (last_lbase_at s base) in
    let start = base - size (code_word_at s base) in
    range start (base - start) ++ cond (leb base (last_lbase_at s base)) [] older

-- The cells of the frame at `base` that starts at `start`: its temporaries below `top`, which may name its own variables, its
-- arguments, which may name those of older frames, and its locals.
unfoldable pub frame_cells : List ℕ → (ℕ → ℕ) → (ℕ → ℕ) → (ℕ → ℕ) → ℕ → ℕ → ℕ → ℕ → Bool
frame_cells s arrays own older args start base top =
    words_where (top - (base + 2)) (free_cell s arrays own) s (sbase s + base + 2)
    && words_where args (free_cell s arrays older) s (sbase s + start)
    && words_where (base - (start + args)) (plain_cell arrays) s (sbase s + start + args)

-- The cells of the frames from the one at `base` down.
unfoldable pub cells_from : ℕ → (ℕ → ℕ) → (ℕ → ℕ) → List ℕ → (ℕ → ℕ) → ℕ → ℕ → Bool
cells_from zero args size s arrays base top = false
cells_from (suc fuel) args size s arrays base top =
    let w = code_word_at s base in
    let start = base - size w in
    let bottom = leb base (last_lbase_at s base) in
    let older = cond bottom [] (variables_from fuel size s (last_lbase_at s base)) in
    let further = cells_from fuel args size s arrays (last_lbase_at s base) start in
    frame_cells s arrays (in_list (variables_from (suc fuel) size s base)) (in_list older) (args w) start base top
    && cond bottom true further

unfoldable pub cells_test : List ℕ → List ℕ → List ℕ → Bool
cells_test s regular alternate =
    words_where (blockptr s - 8) (plain_cell (in_list (array_starts s))) s 8
    && cells_from (length s) (arguments regular alternate) (variables regular alternate) s (in_list (array_starts s)) (lbase s) (ltop s + 1)
