-- Lay out. Document 01's table: 10, 11, 12, then 20 ("function absent or with arguments") before 19 ("globals above 4,088, array
-- words below 6, or the parts and bottom frame exceed the words lent"); decision 12. "Lay out makes cells undefined, PCTR 8,
-- ROVER BLOCKPTR, other words zero." Assumes nothing.
use Rattle.std.specs.Prelude.{ℕ, ◌+◌, ◌-◌, ◌*◌, ◌^◌, Bool, cond, ◌&&◌, List, leb, eqb, length, set, replicate}
use Rattle.std.proofs.lemmas.List.Edits.{sets}
use Rattle.descriptor.specs.Fields.{undefined_word}
use Rattle.procedure.specs.Directory.{selected, has_function, nargs_of, nlocals_of}
use Rattle.procedure.specs.Refusal.{procedure_refusal}
use Rattle.acceptance.specs.Refusal.{length_test}
use Rattle.manual.specs.Control.{frame_word}

-- What is asked for: the bottom function by its procedure segment, 0 or 1, and number; globals; array words, the dummy's 3 among them.
pub record Layout : Type 0 where
  pub selector : ℕ
  pub function : ℕ
  pub globals : ℕ
  pub array_words : ℕ

abbrev pub layout : ℕ → ℕ → ℕ → ℕ → Layout
layout selector function globals array_words = record { selector = selector; function = function; globals = globals; array_words = array_words }

abbrev pub chosen : List ℕ → List ℕ → Layout → List ℕ
chosen regular alternate l = selected (eqb l.selector 1) regular alternate

abbrev pub locals_of : List ℕ → List ℕ → Layout → ℕ
locals_of regular alternate l = nlocals_of (chosen regular alternate l) l.function

-- Test 20.
unfoldable pub function_test : List ℕ → List ℕ → Layout → Bool
function_test regular alternate l =
    leb l.selector 1
    && leb l.function 2047
    && has_function (chosen regular alternate l) l.function
    && eqb (nargs_of (chosen regular alternate l) l.function) 0

-- Where array storage starts, and the stack after it.
abbrev pub storage_start : Layout → ℕ
storage_start l = 8 + l.globals

abbrev pub base_of : Layout → ℕ
base_of l = storage_start l + l.array_words

-- Test 19.
unfoldable pub parts_test : List ℕ → List ℕ → List ℕ → Layout → Bool
parts_test s regular alternate l =
    leb l.globals 4088
    && leb 6 l.array_words
    && leb (base_of l + locals_of regular alternate l + 2) (length s)

unfoldable pub lay_out_refusal : List ℕ → List ℕ → List ℕ → Layout → ℕ
lay_out_refusal s regular alternate l =
    cond (length_test s)
    (cond (eqb (procedure_refusal regular alternate) 0)
    (cond (function_test regular alternate l) (cond (parts_test s regular alternate l) 0 19) 20)
    (procedure_refusal regular alternate))
    10

-- ---- the fresh segment

-- Array storage of n words from `start`: one free block of all but three, and the dummy, each the other's neighbour in the ring.
unfoldable pub fresh_storage : List ℕ → ℕ → ℕ → List ℕ
fresh_storage s start n =
    let dummy = start + n - 3 in
    set
    (set
    (set
    (set (set s start (2 ^ 31 + (n - 3))) (start + 1) (dummy * 2 ^ 16 + dummy))
    (dummy - 1) (n - 3))
    dummy (2 ^ 30))
    (dummy + 1) (start * 2 ^ 16 + start)

-- The bottom frame: undefined locals, last LBASE naming itself, the function's word.
unfoldable pub fresh_frame : List ℕ → ℕ → ℕ → ℕ → List ℕ
fresh_frame s base locals word =
    set (set (sets s base (replicate locals undefined_word)) (base + locals) locals) (base + locals + 1) word

-- Words 0, 1 and 4: SBASE and LTOP, LBASE and ROVER, BLOCKPTR.
unfoldable pub fresh_head : List ℕ → ℕ → ℕ → ℕ → List ℕ
fresh_head s start base locals =
    set (set (set s 0 (base * 2 ^ 16 + (locals + 1))) 1 (locals * 2 ^ 16 + start)) 4 start

unfoldable pub fresh : ℕ → ℕ → ℕ → Layout → List ℕ
fresh n locals word l =
    fresh_frame
    (fresh_storage
    (sets (fresh_head (replicate n 0) (storage_start l) (base_of l) locals) 8 (replicate l.globals undefined_word))
    (storage_start l)
    l.array_words)
    (base_of l)
    locals
    word

-- The segment after a lay out.
unfoldable pub laid_out : List ℕ → List ℕ → List ℕ → Layout → List ℕ
laid_out s regular alternate l =
    cond (eqb (lay_out_refusal s regular alternate l) 0)
    (fresh (length s) (locals_of regular alternate l) (frame_word (eqb l.selector 1) l.function) l)
    s
