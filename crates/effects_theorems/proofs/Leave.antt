-- The current frame goes, with or without a result.
use Prim.Native.Nat.{ℕ, suc, ◌+◌, ◌-◌, ◌*◌, ◌/◌, ◌%◌, ◌^◌, ◌<◌, ◌≤◌}
use mathlib.Core.Path.{◌≡◌, refl, sym, ◌∙◌, ap, subst}
use mathlib.Core.Bool.{true, false}
use mathlib.Core.List.{List, [], ◌∷◌, ◌++◌, map}
use mathlib.Core.Logic.{◌≢◌, inr}
use native.Mathlib.Omega.{arith}
use lib.ListN.{get_or, set, length, drop, length-set, get_or-map}
use lib.Seq.{get_or-set_same, get_or-set_other}
use Rattle.descriptor.specs.Fields.{array_word, undefined_word}
use Rattle.segment.specs.State.{sbase, ltop, lbase, rover, blockptr, set_ltop, set_lbase}
use Rattle.segment.specs.Blocks.{part}
use Rattle.segment.specs.Stack.{last_lbase_at, code_word_at, downward}
use Rattle.segment.specs.Cells.{Cell, undefined, cell}
use Rattle.storage.specs.Arrays.{share, drop_words}
use Rattle.storage.specs.Heap.{count}
use Rattle.storage.specs.Owned.{Owned, CellsKept, OwnedStep}
use Rattle.segment.specs.Machine.{Machine, map_machine, cells_of_frames, all_cells}
use Rattle.segment.specs.View.{frames_from, words, owners, view}
use Rattle.segment.proofs.Runs.{downward-length, undefined-cell, get_or-downward, part_same}
use Rattle.manual.specs.Effects as manual
use Rattle.manual.proofs.Machines.{map-drop, map-current, map-older}
use Rattle.storage_theorems.proofs.Counts.{count-append}
use Rattle.storage_theorems.specs.Elsewhere.{Elsewhere}
use Rattle.storage_theorems.proofs.Owners.{reown}
use Rattle.storage_theorems.proofs.Steps.{kept_on, step-none, downward-same, downward-split, drops-own}
use Rattle.storage_theorems.proofs.Elsewhere.{own-elsewhere, cell-elsewhere}
use Rattle.effects.specs.Perform.{leaving_start, leave_with, leave_without}
use Rattle.effects.specs.Sound.{Chain, bottom, upon, Sound}
use Rattle.effects.specs.Fits.{CanLeave}
use Rattle.effects_theorems.specs.Theorems.{StateKept}
use Rattle.effects_theorems.proofs.StateWords.{state-on, state-step}
use Rattle.frame_theorems.proofs.Counts.{machine-agree, cells_count, count-get_or, current-count}
use Rattle.frame_theorems.proofs.Frames.{drop-downward, frame, frames-next, frames-fuel, frames-same, chain_same, words-kept}
use Rattle.effects_theorems.proofs.Sound.{Bounds, bounds, owners-few, Regs, kept-regs, Done}
use Rattle.effects_theorems.proofs.Sources.{Put, put-shared}

-- the machine without its current frame
abbrev left : {A : Type 0} → List A → ℕ → Machine A → Machine A
left top n m =
    record {
      flags = m.flags;
      temporaries = top ++ drop n (manual.current_cells m.frames);
      frames = manual.older m.frames;
      globals = m.globals;
    }

-- a frame of the chain stands upon another or is the bottom
chain-older : {s : List ℕ} {base : ℕ} → Chain s base → last_lbase_at s base + 2 ≤ base → Chain s (last_lbase_at s base)
chain-older (bottom q) h = absurd (omega (arith, q, h))
chain-older (upon q c) h = c

-- LTOP and LBASE are the older frame's, `top` stands above what is left of its cells, and the words below are the same
record Back (s s' : List ℕ) (n last : ℕ) (top : List ℕ) : Type 0 where
  moved : Elsewhere s s'
  frame : lbase s' ≡ last
  ends : ltop s' + 1 ≡ lbase s - n + length top
  keep : (j : ℕ) → 1 < j → j < sbase s + lbase s - n → get_or s' j 0 ≡ get_or s j 0
  tops : downward s' (sbase s + last + 2) (ltop s' - (last + 1)) ≡ top ++ downward s (sbase s + last + 2) (lbase s - (last + 2) - n)

module _ (s : List ℕ) (n last : ℕ) (is : last_lbase_at s (lbase s) ≡ last) (starts : last + 2 + n ≤ lbase s)
    (low : 8 ≤ blockptr s) (mid : blockptr s ≤ sbase s) where
  now-frames : (words s).frames ≡ frame s (code_word_at s (lbase s)) (sbase s) (last + 2) (lbase s) ∷ frames_from (suc last) s last
  unfolding words
  now-frames =
      frames-next (lbase s) s (lbase s) (sbase s) last _ refl is refl (omega (arith, starts))
      ∙ rw (frames-fuel (lbase s) (suc last) s last (omega (arith, starts)) (omega arith))

  -- the cells that go are the highest of the frame
  cells-split : manual.current_cells (words s).frames ≡ downward s (leaving_start s n) n ++ drop n (manual.current_cells (words s).frames)
  cells-split =
      let k : lbase s - (last + 2) ≡ lbase s - (last + 2) - n + n = omega (arith, starts) in
      let p : sbase s + (last + 2) + (lbase s - (last + 2) - n) ≡ sbase s + lbase s - n = omega (arith, starts) in
      rw now-frames
      (subst
      (λ (i : ℕ). downward s (sbase s + (last + 2)) i ≡ downward s (sbase s + lbase s - n) n ++ drop n (downward s (sbase s + (last + 2)) i)) (sym k)
      (rw (drop-downward s (sbase s + (last + 2)) (lbase s - (last + 2) - n) n, ← p)
      (downward-split s (sbase s + (last + 2)) (lbase s - (last + 2) - n) n)))

  left-words : (s' top : List ℕ) → Back s s' n last top → words s' ≡ left top n (words s)
  unfolding words
  left-words s' top b =
      let base : sbase s' ≡ sbase s = b.moved.bound in
      let start : blockptr s' ≡ blockptr s = b.moved.start in
      let fl : get_or s' 2 0 ≡ get_or s 2 0 = b.keep 2 (omega arith) (omega (arith, starts)) in
      let gl : part s' 8 (blockptr s - 8) ≡ part s 8 (blockptr s - 8) = part_same s s' 8 (blockptr s - 8)
      (λ i l u. b.keep i (omega arith) (omega (arith, starts))) in
      let fr : frames_from (suc last) s' last ≡ frames_from (suc last) s last = frames-same (suc last) s s' last base
      (λ i l u. b.keep i (omega arith) (omega (arith, starts))) in
      let k : lbase s - (last + 2) ≡ lbase s - (last + 2) - n + n = omega (arith, starts) in
      let o : sbase s + (last + 2) ≡ sbase s + last + 2 = omega arith in
      let d : drop n (downward s (sbase s + (last + 2)) (lbase s - (last + 2))) ≡ downward s (sbase s + last + 2) (lbase s - (last + 2) - n) =
      ap (λ (i : ℕ). drop n (downward s (sbase s + (last + 2)) i)) k
      ∙ drop-downward s (sbase s + (last + 2)) (lbase s - (last + 2) - n) n ∙ rw o in
      rw (fl, base, b.frame, start, gl, fr, b.tops, now-frames, d)

left-map : {A : Type 0} (f : ℕ → A) (top : List ℕ) (n : ℕ) (m : Machine ℕ) → map_machine f (left top n m) ≡ left (map f top) n (map_machine f m)
left-map f [] n m = rw (map-drop f n (manual.current_cells m.frames), map-current f m.frames, map-older f m.frames)
left-map f (w ∷ top) n m =
    ap (λ (q : Machine _). record { flags = q.flags; temporaries = f w ∷ q.temporaries; frames = q.frames; globals = q.globals }) (left-map f top n m)

left-count : (x : ℕ) (top : List ℕ) (n : ℕ) (m : Machine ℕ)
    → count x (all_cells (left top n m))
    ≡ count x top + count x (drop n (manual.current_cells m.frames)) + (count x (cells_of_frames (manual.older m.frames)) + count x m.globals)
left-count x top n m =
    cells_count x (left top n m)
    ∙ ap (λ (k : ℕ). k + (count x (cells_of_frames (manual.older m.frames)) + count x m.globals))
    (count-append x top (drop n (manual.current_cells m.frames)))

-- the result's count is raised, the cells are dropped, and the older frame is the current one
module _ (s : List ℕ) (g : Sound s) (n : ℕ) (empty : ltop s ≡ lbase s + 1) (starts : last_lbase_at s (lbase s) + 2 + n ≤ lbase s)
    (top r1 : List ℕ) (cs : List Cell) (first : OwnedStep s (owners s) r1 (top ++ owners s)) (shown : map (cell r1) top ≡ cs) where
  abbrev last : ℕ
  last = last_lbase_at s (lbase s)

  abbrev m : Machine ℕ
  m = words s

  abbrev b : ℕ
  b = leaving_start s n

  abbrev r2 : List ℕ
  r2 = drop_words n r1 b

  abbrev us : List ℕ
  us = all_cells (left top n m)

  low : Bounds s
  low = bounds g

  -- the frame's cells stand as they did, own what they hold, and stand above array storage
  pub leave-cells : downward r1 b n ≡ downward s b n
  leave-cells = downward-same s r1 b n (λ i p q. first.kept.rest i (omega (arith, low, starts)) (inr (omega (arith, starts))))

  split : manual.current_cells m.frames ≡ downward s b n ++ drop n (manual.current_cells m.frames)
  split = cells-split s n last refl starts low.low (omega (arith, low))

  no-temporaries : (x : ℕ) → count x m.temporaries ≡ 0
  unfolding words
  no-temporaries x = let e : ltop s - (lbase s + 1) ≡ 0 = omega (arith, empty) in rw e

  counted : (x : ℕ) → count x (downward r1 b n ++ us) ≡ count x (top ++ owners s)
  counted x =
      omega (
        arith,
        count-append x (downward r1 b n) us,
        ap (count x) leave-cells,
        left-count x top n m,
        cells_count x m,
        no-temporaries x,
        count-append x top (owners s),
        current-count x m.frames,
        ap (count x) split,
        count-append x (downward s b n) (drop n (manual.current_cells m.frames)),
      )

  pub leave_own : Owned r1 (downward r1 b n ++ us)
  leave_own = reown (downward r1 b n ++ us) (λ x l. counted (array_word x)) first.own

  pub leave-above : sbase r1 ≤ b
  leave-above = omega (arith, kept-regs first.kept low.low, starts)

  second : OwnedStep r1 (downward r1 b n ++ us) r2 us
  second = drops-own n us b leave_own leave-above

  kept2 : CellsKept s r2
  kept2 = kept_on low.low first.kept second.kept

  left-regs : Regs s r2
  left-regs = kept-regs kept2 low.low

  is2 : last_lbase_at r2 (lbase r2) ≡ last
  is2 =
      let e : sbase r2 + lbase r2 ≡ sbase s + lbase s = omega (arith, left-regs) in
      rw e (kept2.rest (sbase s + lbase s) (omega (arith, low)) (inr (omega arith)))

  module _ (r3 : List ℕ) (back : Back r2 r3 n last top) where
    words3 : words r3 ≡ left top n m
    words3 =
        left-words r2 n last is2 (omega (arith, left-regs, starts)) (omega (arith, left-regs, low)) (omega (arith, left-regs, low)) r3 top back
        ∙ ap (left top n) (words-kept s r2 kept2 low.low (omega (arith, low)))

    chain3 : Chain r3 (lbase r3)
    chain3 =
        rw back.frame
        (chain_same r3 (chain-older g.chain (omega (arith, starts))) (back.moved.bound ∙ left-regs.base)
        (λ i l u. back.keep i (omega (arith, low)) (omega (arith, left-regs, starts)) ∙ kept2.rest i (omega (arith, low)) (inr l)))

    left-sound : length top ≤ 1 → Sound r3
    left-sound few = record {
      own = rw words3 (own-elsewhere back.moved second.own);
      fits = omega (arith, back.ends, back.moved.long, back.moved.bound, left-regs, low, starts, few);
      above = omega (arith, back.ends, back.frame, left-regs, low, starts);
      chain = chain3;
    }

    left-state : StateKept s r3
    left-state =
        state-on (state-step kept2 low.low)
        (record {
          long = back.moved.long;
          base = back.moved.bound;
          rest = λ i l u. back.keep i (omega arith) (omega (arith, left-regs, low, starts));
        })

    left-view : view r3 ≡ left cs n (view s)
    unfolding view
    left-view =
        ap (map_machine (cell r3)) words3
        ∙ machine-agree (cell r3) (cell r1) (left top n m)
        (λ v c. cell-elsewhere back.moved second.own v c ∙ second.same v (omega (arith, c, count-append v (downward r1 b n) us)) c)
        ∙ left-map (cell r1) top n m
        ∙ ap (λ (ds : List Cell). left ds n (map_machine (cell r1) m)) shown
        ∙ ap (left cs n) (machine-agree (cell r1) (cell s) m (λ v c. first.same v c (omega (arith, c, count-append v top (owners s)))))

    left-done : length top ≤ 1 → Done s r3 (left cs n (view s))
    left-done few = record { sound = left-sound few; seen = left-view; state = left-state }

-- the older frame's LTOP and LBASE
module _ (s : List ℕ) (n last v : ℕ) (starts : last + 2 + n ≤ lbase s) (low : 8 ≤ blockptr s) (mid : blockptr s + 3 ≤ sbase s) (short : length s ≤ 16384)
    (fit : sbase s + lbase s < length s) (small : v ≤ lbase s) where
  abbrev s1 : List ℕ
  s1 = set s 0 (sbase s * 2 ^ 16 + v)

  abbrev s2 : List ℕ
  s2 = set s1 1 (last * 2 ^ 16 + rover s1)

  ends-keep : (j : ℕ) → 1 < j → get_or s2 j 0 ≡ get_or s j 0
  ends-keep j h =
      let a : j ≢ 0 = omega arith in
      let c : j ≢ 1 = omega arith in
      simp (get_or-set_other, a, c)

  ends-first : get_or s2 0 0 ≡ sbase s * 2 ^ 16 + v
  ends-first =
      let d : ◌≢◌ {A = ℕ} 0 1 = omega arith in
      let l : 0 < length s = omega (arith, fit) in
      simp (get_or-set_other, get_or-set_same, d, l)

  ends-second : get_or s2 1 0 ≡ last * 2 ^ 16 + rover s
  ends-second =
      let l : 1 < length s1 = omega (arith, fit, length-set s 0 (sbase s * 2 ^ 16 + v), low, mid) in
      let d : ◌≢◌ {A = ℕ} 1 0 = omega arith in
      let r : get_or s1 1 0 ≡ get_or s 1 0 = rw get_or-set_other in
      rw (get_or-set_same, r)

  ends-moved : Elsewhere s s2
  ends-moved = record {
    long = simp length-set;
    bound = omega (arith, ends-first, small, fit, short);
    turn = omega (arith, ends-second);
    start = ends-keep 4 (omega arith);
    inner = λ i l u. ends-keep i (omega (arith, low));
  }

  ends-top : ltop s2 ≡ v
  ends-top = omega (arith, ends-first, small, fit, short)

  ends-frame : lbase s2 ≡ last
  ends-frame = omega (arith, ends-second)

module _ (s : List ℕ) (n last : ℕ) (starts : last + 2 + n ≤ lbase s) (low : 8 ≤ blockptr s) (mid : blockptr s + 3 ≤ sbase s) (short : length s ≤ 16384)
    (fit : sbase s + lbase s < length s) where
  abbrev e1 : List ℕ
  e1 = set (set s 0 (sbase s * 2 ^ 16 + (lbase s - n - 1))) 1 (last * 2 ^ 16 + rover (set s 0 (sbase s * 2 ^ 16 + (lbase s - n - 1))))

  back-without : Back s e1 n last []
  back-without =
      let k = ends-keep s n last (lbase s - n - 1) starts low mid short fit (omega arith) in
      let t : ltop e1 ≡ lbase s - n - 1 = ends-top s n last (lbase s - n - 1) starts low mid short fit (omega arith) in
      let e : lbase s - n - 1 - (last + 1) ≡ lbase s - (last + 2) - n = omega (arith, starts) in
      record {
        moved = ends-moved s n last (lbase s - n - 1) starts low mid short fit (omega arith);
        frame = ends-frame s n last (lbase s - n - 1) starts low mid short fit (omega arith);
        ends = omega (arith, t, starts);
        keep = λ j h l. k j h;
        tops = rw (t, e) (downward-same s e1 (sbase s + last + 2) (lbase s - (last + 2) - n) (λ i l u. k i (omega arith)));
      }

  module _ (w b : ℕ) (at : b + n ≡ sbase s + lbase s) where
    abbrev e2 : List ℕ
    e2 = set (set s 0 (sbase s * 2 ^ 16 + (lbase s - n))) 1 (last * 2 ^ 16 + rover (set s 0 (sbase s * 2 ^ 16 + (lbase s - n))))

    abbrev e3 : List ℕ
    e3 = set e2 b w

    moved2 : Elsewhere s e2
    moved2 = ends-moved s n last (lbase s - n) starts low mid short fit (omega arith)

    other3 : (j : ℕ) → j ≢ b → get_or e3 j 0 ≡ get_or e2 j 0
    other3 j h = rw get_or-set_other

    there3 : get_or e3 b 0 ≡ w
    there3 = let l : b < length e2 = omega (arith, moved2.long, fit, at) in rw get_or-set_same

    back-with : Back s e3 n last (w ∷ [])
    back-with =
        let k = ends-keep s n last (lbase s - n) starts low mid short fit (omega arith) in
        let z : get_or e3 0 0 ≡ get_or e2 0 0 = other3 0 (omega (arith, at, starts, mid)) in
        let o : get_or e3 1 0 ≡ get_or e2 1 0 = other3 1 (omega (arith, at, starts, mid)) in
        let t : ltop e3 ≡ lbase s - n = ap (λ (v : ℕ). v % 2 ^ 16) z ∙ ends-top s n last (lbase s - n) starts low mid short fit (omega arith) in
        let e : lbase s - n - (last + 1) ≡ suc (lbase s - (last + 2) - n) = omega (arith, starts) in
        let p : sbase s + last + 2 + (lbase s - (last + 2) - n) ≡ b = omega (arith, starts, at) in
        let r : downward e3 (sbase s + last + 2) (lbase s - (last + 2) - n) ≡ downward s (sbase s + last + 2) (lbase s - (last + 2) - n) = downward-same s e3
        (sbase s + last + 2) (lbase s - (last + 2) - n) (λ i l u. other3 i (omega (arith, at, starts)) ∙ k i (omega arith)) in
        record {
          moved = record {
            long = length-set e2 b w ∙ moved2.long;
            bound = ap (λ (v : ℕ). v / 2 ^ 16) z ∙ moved2.bound;
            turn = ap (λ (v : ℕ). v % 2 ^ 16) o ∙ moved2.turn;
            start = other3 4 (omega (arith, at, starts, mid)) ∙ moved2.start;
            inner = λ i l u. other3 i (omega (arith, at, starts)) ∙ moved2.inner i l u;
          };
          frame = ap (λ (v : ℕ). v / 2 ^ 16) o ∙ ends-frame s n last (lbase s - n) starts low mid short fit (omega arith);
          ends = omega (arith, t, starts);
          keep = λ j h l. other3 j (omega (arith, at, l)) ∙ k j h;
          tops = rw (t, e, p, there3, r);
        }

-- RETURN of a function without a result
module _ (s : List ℕ) (g : Sound s) (n : ℕ) (can : CanLeave s n false) where
  pub without-first : OwnedStep s (owners s) s (owners s)
  without-first = step-none (owners s) (λ x l. refl) g.own

  abbrev d0 : List ℕ
  d0 = drop_words n s (leaving_start s n)

  regs0 : Regs s d0
  regs0 = left-regs s g n can.empty can.cells [] s [] without-first refl

  abbrev f0 : List ℕ
  f0 = set (set d0 0 (sbase d0 * 2 ^ 16 + (lbase d0 - n - 1))) 1
      (last_lbase_at s (lbase s) * 2 ^ 16 + rover (set d0 0 (sbase d0 * 2 ^ 16 + (lbase d0 - n - 1))))

  back0 : Back d0 f0 n (last_lbase_at s (lbase s)) []
  back0 =
      let low = bounds g in
      back-without d0 n (last_lbase_at s (lbase s)) (omega (arith, regs0, can)) (omega (arith, regs0)) (omega (arith, regs0)) (omega (arith, regs0))
      (omega (arith, regs0))

  without_is : leave_without s n ≡ f0
  unfolding leave_without set_ltop set_lbase
  without_is =
      let small : last_lbase_at s (lbase s) % 2 ^ 16 ≡ last_lbase_at s (lbase s) = omega (arith, bounds g, can.cells) in
      rw (small, regs0.frame)

  pub without-done : Done s (leave_without s n) (manual.leave undefined n false (view s))
  without-done = rw without_is (left-done s g n can.empty can.cells [] s [] without-first refl f0 back0 (omega arith))

-- RETURN with a result: the frame's highest cell
module _ (s : List ℕ) (g : Sound s) (n : ℕ) (can : CanLeave s n true) where
  abbrev w : ℕ
  w = get_or s (sbase s + lbase s - 1) 0

  abbrev c : Cell
  c = get_or (manual.current_cells (view s).frames) 0 undefined

  highest : (none : ℕ) → get_or (manual.current_cells (words s).frames) 0 none ≡ w
  highest none =
      let low = bounds g in
      let l = last_lbase_at s (lbase s) in
      let e : sbase s + (last_lbase_at s (lbase s) + 2) + (lbase s - (last_lbase_at s (lbase s) + 2)) - 1 - 0 ≡ sbase s + lbase s - 1 = omega (arith, can.cells) in
      rw (now-frames s n (last_lbase_at s (lbase s)) refl can.cells low.low (omega arith))
      (get_or-downward s (sbase s + (last_lbase_at s (lbase s) + 2)) (lbase s - (last_lbase_at s (lbase s) + 2)) 0 none (omega (arith, can.cells, can.some refl)) ∙ rw e)

  some : 0 < length (manual.current_cells (words s).frames)
  some =
      let low = bounds g in
      rw (now-frames s n (last_lbase_at s (lbase s)) refl can.cells low.low (omega arith))
      (omega
      (arith, downward-length s (sbase s + (last_lbase_at s (lbase s) + 2)) (lbase s - (last_lbase_at s (lbase s) + 2)), can.cells, can.some refl))

  owned : 0 < count w (owners s)
  owned =
      let k : 0 < count (get_or (manual.current_cells (words s).frames) 0 0) (manual.current_cells (words s).frames) = count-get_or
      (manual.current_cells (words s).frames) 0 0 some in
      let e = highest 0 in
      omega (arith, cells_count w (words s), current-count w (words s).frames, rw e at k)

  shown : cell s w ≡ c
  unfolding view
  shown =
      sym
      (ap (λ (d : Cell). get_or (manual.current_cells (map_machine (cell s) (words s)).frames) 0 d) (sym (undefined-cell s))
      ∙ ap (λ (l : List Cell). get_or l 0 (cell s undefined_word)) (sym (map-current (cell s) (words s).frames))
      ∙ get_or-map (cell s) (manual.current_cells (words s).frames) 0 undefined_word ∙ ap (cell s) (highest undefined_word))

  pub with-put : Put s (owners s) (share s w) w c
  with-put = put-shared w c g.own (owners-few s g) owned shown

  pub with-shown : map (cell (share s w)) (w ∷ []) ≡ c ∷ []
  with-shown = rw with-put.shown

  abbrev d1 : List ℕ
  d1 = drop_words n (share s w) (leaving_start s n)

  regs1 : Regs s d1
  regs1 = left-regs s g n can.empty can.cells (w ∷ []) (share s w) (c ∷ []) with-put.step with-shown

  abbrev f1 : List ℕ
  f1 = set
      (set (set d1 0 (sbase d1 * 2 ^ 16 + (lbase d1 - n))) 1 (last_lbase_at s (lbase s) * 2 ^ 16 + rover (set d1 0 (sbase d1 * 2 ^ 16 + (lbase d1 - n)))))
      (leaving_start s n) w

  back1 : Back d1 f1 n (last_lbase_at s (lbase s)) (w ∷ [])
  back1 =
      let low = bounds g in
      back-with d1 n (last_lbase_at s (lbase s)) (omega (arith, regs1, can)) (omega (arith, regs1)) (omega (arith, regs1)) (omega (arith, regs1))
      (omega (arith, regs1)) w (leaving_start s n) (omega (arith, regs1, can))

  with-is : leave_with s n ≡ f1
  unfolding leave_with set_ltop set_lbase
  with-is =
      let small : last_lbase_at s (lbase s) % 2 ^ 16 ≡ last_lbase_at s (lbase s) = omega (arith, bounds g, can.cells) in
      rw (small, regs1.frame)

  pub with-done : Done s (leave_with s n) (manual.leave undefined n true (view s))
  with-done = rw with-is (left-done s g n can.empty can.cells (w ∷ []) (share s w) (c ∷ []) with-put.step with-shown f1 back1 (omega arith))
