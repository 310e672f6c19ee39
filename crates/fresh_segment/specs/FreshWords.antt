-- Every word of what a lay out that returns 0 leaves, in the order of document 01's "Data segment", each by its number: "Lay out
-- makes cells undefined, PCTR 8, ROVER BLOCKPTR, other words zero." The theorem says that a lay out leaves these words, and that
-- no word is left open: two segments of which all this holds are the same. proofs/FreshWords.antt proves it.
-- A reader must believe: the clauses of `FreshWords`, and that `segment`'s names stand for their words and bits. Assumes nothing.
use Rattle.std.specs.Prelude.{ℕ, ◌+◌, ◌-◌, ◌*◌, ◌^◌, ◌≤◌, ◌<◌, ◌≡◌, List, eqb, get_or, length}
use Rattle.descriptor.specs.Fields.{undefined_word}
use Rattle.segment.specs.State as state
use Rattle.segment.specs.Blocks.{next_at, last_at, dummy}
use Rattle.segment.specs.Stack.{stack_at, last_lbase_at, code_word_at}
use Rattle.manual.specs.Control.{frame_word}
use Rattle.fresh_segment.specs.LayOut.{Layout, locals_of, lay_out_refusal, laid_out}

-- The segment `t` of `words` words, laid out for a bottom function of `locals` locals. `function` is its frame's second word.
pub record FreshWords (words locals function : ℕ) (l : Layout) (t : List ℕ) : Type 0 where
  pub long : length t ≡ words
  -- Word 0 is SBASE and LTOP, word 1 LBASE and ROVER, word 2 the flags, word 3 the trap, word 4 BLOCKPTR, "5–7: zero".
  pub sbase : state.sbase t ≡ 8 + l.globals + l.array_words
  pub ltop : state.ltop t ≡ locals + 1
  pub lbase : state.lbase t ≡ locals
  pub rover : state.rover t ≡ 8 + l.globals
  pub flags : state.flags t ≡ 0
  pub trap : state.trap_word t ≡ 0
  pub blockptr : state.blockptr t ≡ 8 + l.globals
  pub unused : (i : ℕ) → 5 ≤ i → i < 8 → get_or t i 0 ≡ 0
  -- "Globals fill 8 to BLOCKPTR−1", "array storage BLOCKPTR to SBASE−1, the stack the rest".
  pub globals : (i : ℕ) → 8 ≤ i → i < state.blockptr t → get_or t i 0 ≡ undefined_word
  -- One free block from BLOCKPTR up to the dummy: "word 0 bit 31 and SIZE of at least 3; word 1 NEXT high, LAST low; last word SIZE."
  pub free_first : get_or t (state.blockptr t) 0 ≡ 0x8000_0000 + (l.array_words - 3)
  pub free_next : next_at t (state.blockptr t) ≡ dummy t
  pub free_last : last_at t (state.blockptr t) ≡ dummy t
  pub free_interior : (i : ℕ) → state.blockptr t + 2 ≤ i → i + 1 < dummy t → get_or t i 0 ≡ 0
  pub free_end : get_or t (dummy t - 1) 0 ≡ l.array_words - 3
  -- "The dummy fills SBASE−3 to SBASE−1: as a free block, but bit 31 clear, SIZE 0, PREVFREE used."
  pub dummy_first : get_or t (dummy t) 0 ≡ 0x4000_0000
  pub dummy_next : next_at t (dummy t) ≡ state.blockptr t
  pub dummy_last : last_at t (dummy t) ≡ state.blockptr t
  pub dummy_end : get_or t (state.sbase t - 1) 0 ≡ 0
  -- The frame, whose addresses count from SBASE: no argument, the locals, "a word with last LBASE", which in the bottom frame "equals
  -- its own LBASE", the word with P, function number and PCTR, no temporary. Then nothing more up to the end.
  pub frame_locals : (i : ℕ) → i < state.lbase t → stack_at t i ≡ undefined_word
  pub frame_last : last_lbase_at t (state.lbase t) ≡ state.lbase t
  pub frame_function : code_word_at t (state.lbase t) ≡ function
  pub above : (i : ℕ) → state.ltop t < i → state.sbase t + i < length t → stack_at t i ≡ 0

pub record FreshSaid : Type 0 where
  pub said : (s regular alternate : List ℕ) (l : Layout) → lay_out_refusal s regular alternate l ≡ 0
      → FreshWords (length s) (locals_of regular alternate l) (frame_word (eqb l.selector 1) l.function) l (laid_out s regular alternate l)
  -- the frame's second word: P bit 27, function number bits 26–16, PCTR 8
  pub second : (s regular alternate : List ℕ) (l : Layout) → lay_out_refusal s regular alternate l ≡ 0
      → frame_word (eqb l.selector 1) l.function ≡ l.selector * 2 ^ 27 + l.function * 2 ^ 16 + 8
  pub determined : (words locals function : ℕ) (l : Layout) (t u : List ℕ)
      → FreshWords words locals function l t → FreshWords words locals function l u → t ≡ u
