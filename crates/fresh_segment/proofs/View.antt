-- The view of a fresh segment.
use Prim.Native.Nat.{ℕ, suc, ◌+◌, ◌-◌, ◌*◌, ◌/◌, ◌%◌, ◌^◌}
use mathlib.Core.Path.{◌≡◌, ◌∙◌}
use mathlib.Core.List.{List, [], ◌∷◌, map}
use native.Mathlib.Omega.{arith}
use lib.ListN.{get_or, replicate}
use borrow.Author.Tests.{le-leb}
use Rattle.descriptor.specs.Fields.{undefined_word}
use Rattle.segment.specs.State.{sbase, ltop, lbase, blockptr}
use Rattle.segment.specs.Blocks.{part}
use Rattle.segment.specs.Stack.{last_lbase_at, code_word_at, downward}
use Rattle.segment.specs.Cells.{undefined, cell}
use Rattle.segment.specs.View.{frame_at, frames_from, words, view}
use Rattle.segment.proofs.Runs.{undefined-cell}
use Rattle.fresh_segment.specs.LayOut.{Layout, base_of}
use Rattle.fresh_segment.specs.Fresh.{fresh_view}
use Rattle.fresh_segment.proofs.Runs.{map-part, map-downward}
use Rattle.fresh_segment.proofs.Words.{Room, Laid}
use Rattle.fresh_segment.proofs.Storage.{laid-sbase, laid-ltop, laid-lbase}

module _ {s : List ℕ} {n locals word : ℕ} {l : Layout} (h : Room n locals l) (t : Laid s n locals word l) where
  sbase-is : sbase s ≡ base_of l
  sbase-is = laid-sbase h t

  lbase-is : lbase s ≡ locals
  lbase-is = laid-lbase h t

  pub laid-last : last_lbase_at s locals ≡ locals
  laid-last = rw sbase-is t.last

  pub laid_code : code_word_at s locals ≡ word
  laid_code = rw sbase-is t.code

  -- The bottom frame is the only one.
  laid-frames : frames_from (suc (lbase s)) s (lbase s) ≡ frame_at s locals 0 ∷ []
  unfolding frames_from
  laid-frames = rw (lbase-is, le-leb locals (last_lbase_at s locals) (omega (arith, laid-last)))

  laid-globals : map (cell s) (part s 8 (blockptr s - 8)) ≡ replicate l.globals undefined
  laid-globals =
      let e : blockptr s - 8 ≡ l.globals = omega (arith, t.word4) in
      rw e (map-part (cell s) l.globals s 8 undefined_word (λ i k u. t.globals i k u) ∙ rw (undefined-cell s))

  laid-locals : map (cell s) (downward s (sbase s + 0) (locals - 0)) ≡ replicate locals undefined
  laid-locals =
      let a : sbase s + 0 ≡ base_of l = omega (arith, sbase-is) in
      let b : locals - 0 ≡ locals = omega arith in
      rw (a, b) (map-downward (cell s) locals s (base_of l) undefined_word (λ i k u. t.variables i k u) ∙ rw (undefined-cell s))

  none : ltop s - (lbase s + 1) ≡ 0
  none = omega (arith, lbase-is, laid-ltop h t)

  pub laid-view : word / 2 ^ 16 ≡ l.selector * 2 ^ 11 + l.function → word % 2 ^ 16 ≡ 8 → view s ≡ fresh_view locals l
  unfolding view words
  laid-view f p =
      let z : get_or s 2 0 ≡ 0 = t.zeros 2 (omega arith) (omega arith) in
      rw (z, none, laid-frames, laid-globals, laid-locals, laid_code, f, p)
