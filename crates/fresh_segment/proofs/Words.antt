-- The words of a fresh segment, each by its place.
use Prim.Native.Nat.{ℕ, ◌+◌, ◌-◌, ◌*◌, ◌^◌, ◌≤◌, ◌<◌}
use mathlib.Core.Path.{◌≡◌, ◌∙◌}
use mathlib.Core.List.{List}
use mathlib.Core.Logic.{◌≢◌}
use native.Mathlib.Omega.{arith}
use lib.ListN.{get_or, set, length, replicate, length-set, length-replicate, get_or-replicate}
use lib.Seq.{sets, length-sets, get_or-set_same, get_or-set_other, lt-length-set}
use Rattle.descriptor.specs.Fields.{undefined_word}
use Rattle.fresh_segment.specs.LayOut.{Layout, storage_start, base_of, fresh_head, fresh_storage, fresh_frame, fresh}
use Rattle.fresh_segment.proofs.Runs.{run_in, run-below, run-above}

-- The state words.
module _ (s : List ℕ) (start base locals : ℕ) where
  head-long : length (fresh_head s start base locals) ≡ length s
  unfolding fresh_head
  head-long = simp length-set

  head-other : (i : ℕ) → (i ≢ 0) × (i ≢ 1) × (i ≢ 4) → get_or (fresh_head s start base locals) i 0 ≡ get_or s i 0
  unfolding fresh_head
  head-other i d = simp (get_or-set_other, d.0, d.1, d.2)

  module _ (fits : 8 ≤ length s) where
    head-word0 : get_or (fresh_head s start base locals) 0 0 ≡ base * 2 ^ 16 + (locals + 1)
    unfolding fresh_head
    head-word0 =
        let a : ◌≢◌ {A = ℕ} 0 4 = omega arith in
        let b : ◌≢◌ {A = ℕ} 0 1 = omega arith in
        let l : 0 < length s = omega arith in
        simp (get_or-set_other, get_or-set_same, a, b, l)

    head-word1 : get_or (fresh_head s start base locals) 1 0 ≡ locals * 2 ^ 16 + start
    unfolding fresh_head
    head-word1 =
        let a : ◌≢◌ {A = ℕ} 1 4 = omega arith in
        let l : 1 < length s = omega arith in
        simp (get_or-set_other, get_or-set_same, lt-length-set, a, l)

    head-word4 : get_or (fresh_head s start base locals) 4 0 ≡ start
    unfolding fresh_head
    head-word4 = let l : 4 < length s = omega arith in simp (get_or-set_same, lt-length-set, l)

-- Array storage of `n` words.
module _ (s : List ℕ) (start n : ℕ) where
  storage-long : length (fresh_storage s start n) ≡ length s
  unfolding fresh_storage
  storage-long = simp length-set

  storage-other : (i : ℕ) → (i ≢ start) × (i ≢ start + 1) × (i ≢ start + n - 3 - 1) × (i ≢ start + n - 3) × (i ≢ start + n - 3 + 1)
      → get_or (fresh_storage s start n) i 0 ≡ get_or s i 0
  unfolding fresh_storage
  storage-other i d = simp (get_or-set_other, d.0, d.1, d.2, d.3, d.4)

  module _ (least : 6 ≤ n) (fits : start + n ≤ length s) where
    storage-first : get_or (fresh_storage s start n) start 0 ≡ 2 ^ 31 + (n - 3)
    unfolding fresh_storage
    storage-first =
        let b : start ≢ start + 1 = omega arith in
        let c : start ≢ start + n - 3 - 1 = omega arith in
        let d : start ≢ start + n - 3 = omega arith in
        let e : start ≢ start + n - 3 + 1 = omega arith in
        let l : start < length s = omega arith in
        simp (get_or-set_other, get_or-set_same, b, c, d, e, l)

    storage-links : get_or (fresh_storage s start n) (start + 1) 0 ≡ (start + n - 3) * 2 ^ 16 + (start + n - 3)
    unfolding fresh_storage
    storage-links =
        let c : start + 1 ≢ start + n - 3 - 1 = omega arith in
        let d : start + 1 ≢ start + n - 3 = omega arith in
        let e : start + 1 ≢ start + n - 3 + 1 = omega arith in
        let l : start + 1 < length s = omega arith in
        simp (get_or-set_other, get_or-set_same, lt-length-set, c, d, e, l)

    storage-end : get_or (fresh_storage s start n) (start + n - 3 - 1) 0 ≡ n - 3
    unfolding fresh_storage
    storage-end =
        let d : start + n - 3 - 1 ≢ start + n - 3 = omega arith in
        let e : start + n - 3 - 1 ≢ start + n - 3 + 1 = omega arith in
        let l : start + n - 3 - 1 < length s = omega arith in
        simp (get_or-set_other, get_or-set_same, lt-length-set, d, e, l)

    storage-dummy : get_or (fresh_storage s start n) (start + n - 3) 0 ≡ 2 ^ 30
    unfolding fresh_storage
    storage-dummy =
        let e : start + n - 3 ≢ start + n - 3 + 1 = omega arith in
        let l : start + n - 3 < length s = omega arith in
        simp (get_or-set_other, get_or-set_same, lt-length-set, e, l)

    storage-dummy-links : get_or (fresh_storage s start n) (start + n - 3 + 1) 0 ≡ start * 2 ^ 16 + start
    unfolding fresh_storage
    storage-dummy-links =
        let l : start + n - 3 + 1 < length (set s start (2 ^ 31 + (n - 3))) = lt-length-set s start (2 ^ 31 + (n - 3)) (omega arith) in
        simp (get_or-set_same, lt-length-set, l)

-- The bottom frame.
module _ (s : List ℕ) (base locals word : ℕ) (fits : base + locals + 2 ≤ length s) where
  abbrev undefineds : List ℕ
  undefineds = sets s base (replicate locals undefined_word)

  undefineds-long : length undefineds ≡ length s
  undefineds-long = length-sets s base (replicate locals undefined_word)

  frame-long : length (fresh_frame s base locals word) ≡ length s
  unfolding fresh_frame
  frame-long = simp length-set undefineds-long

  behind : (i : ℕ) → i < base + locals → get_or (fresh_frame s base locals word) i 0 ≡ get_or undefineds i 0
  unfolding fresh_frame
  behind i u =
      let a : i ≢ base + locals = omega arith in
      let b : i ≢ base + locals + 1 = omega arith in
      simp (get_or-set_other, a, b)

  frame_below : (i : ℕ) → i < base → get_or (fresh_frame s base locals word) i 0 ≡ get_or s i 0
  frame_below i u = behind i (omega arith) ∙ run-below locals s base undefined_word i u

  frame-above : (i : ℕ) → base + locals + 2 ≤ i → get_or (fresh_frame s base locals word) i 0 ≡ get_or s i 0
  unfolding fresh_frame
  frame-above i l =
      let a : i ≢ base + locals = omega arith in
      let b : i ≢ base + locals + 1 = omega arith in
      (simp (get_or-set_other, a, b)) ∙ run-above locals s base undefined_word i (omega arith)

  frame-locals : (i : ℕ) → base ≤ i → i < base + locals → get_or (fresh_frame s base locals word) i 0 ≡ undefined_word
  frame-locals i l u = behind i u ∙ run_in locals s base undefined_word (omega arith) i l u

  frame-last : get_or (fresh_frame s base locals word) (base + locals) 0 ≡ locals
  unfolding fresh_frame
  frame-last =
      let a : base + locals ≢ base + locals + 1 = omega arith in
      let l : base + locals < length undefineds = omega (arith, undefineds-long) in
      simp (get_or-set_other, get_or-set_same, a, l)

  frame-code : get_or (fresh_frame s base locals word) (base + locals + 1) 0 ≡ word
  unfolding fresh_frame
  frame-code =
      let l : base + locals + 1 < length undefineds = omega (arith, undefineds-long) in
      simp (get_or-set_same, lt-length-set, l)

-- What lay out asks of a segment of `n` words.
pub record Room (n locals : ℕ) (l : Layout) : Type 0 where
  pub longest : n ≤ 16384
  pub storage : 6 ≤ l.array_words
  pub stack : base_of l + locals + 2 ≤ n

-- All words of a segment that lay out leaves.
pub record Laid (s : List ℕ) (n locals word : ℕ) (l : Layout) : Type 0 where
  pub long : length s ≡ n
  pub word0 : get_or s 0 0 ≡ base_of l * 2 ^ 16 + (locals + 1)
  pub word1 : get_or s 1 0 ≡ locals * 2 ^ 16 + storage_start l
  pub word4 : get_or s 4 0 ≡ storage_start l
  pub zeros : (i : ℕ) → (i ≢ 0) × (i ≢ 1) × (i ≢ 4) → i < 8 → get_or s i 0 ≡ 0
  pub globals : (i : ℕ) → 8 ≤ i → i < storage_start l → get_or s i 0 ≡ undefined_word
  pub first : get_or s (storage_start l) 0 ≡ 2 ^ 31 + (l.array_words - 3)
  pub links : get_or s (storage_start l + 1) 0 ≡ (base_of l - 3) * 2 ^ 16 + (base_of l - 3)
  pub interior : (i : ℕ) → storage_start l + 2 ≤ i → i + 1 < base_of l - 3 → get_or s i 0 ≡ 0
  pub end : get_or s (base_of l - 3 - 1) 0 ≡ l.array_words - 3
  pub dummy : get_or s (base_of l - 3) 0 ≡ 2 ^ 30
  pub dummy_links : get_or s (base_of l - 3 + 1) 0 ≡ storage_start l * 2 ^ 16 + storage_start l
  pub dummy_end : get_or s (base_of l - 1) 0 ≡ 0
  pub variables : (i : ℕ) → base_of l ≤ i → i < base_of l + locals → get_or s i 0 ≡ undefined_word
  pub last : get_or s (base_of l + locals) 0 ≡ locals
  pub code : get_or s (base_of l + locals + 1) 0 ≡ word
  pub above : (i : ℕ) → base_of l + locals + 2 ≤ i → i < n → get_or s i 0 ≡ 0

module _ (n locals word : ℕ) (l : Layout) (h : Room n locals l) where
  abbrev blank : List ℕ
  blank = replicate n 0

  abbrev headed : List ℕ
  headed = fresh_head blank (storage_start l) (base_of l) locals

  abbrev defined : List ℕ
  defined = sets headed 8 (replicate l.globals undefined_word)

  abbrev stored : List ℕ
  stored = fresh_storage defined (storage_start l) l.array_words

  blank-long : length blank ≡ n
  blank-long = length-replicate n 0

  headed-long : length headed ≡ n
  headed-long = head-long blank (storage_start l) (base_of l) locals ∙ blank-long

  defined-long : length defined ≡ n
  defined-long = length-sets headed 8 (replicate l.globals undefined_word) ∙ headed-long

  stored-long : length stored ≡ n
  stored-long = storage-long defined (storage_start l) l.array_words ∙ defined-long

  in_frame : base_of l + locals + 2 ≤ length stored
  in_frame = omega (arith, h.stack, stored-long)

  in-storage : storage_start l + l.array_words ≤ length defined
  in-storage = omega (arith, h.stack, defined-long)

  in_head : 8 ≤ length blank
  in_head = omega (arith, h.stack, blank-long)

  under-frame : (i : ℕ) → i < base_of l → get_or (fresh n locals word l) i 0 ≡ get_or stored i 0
  unfolding fresh
  under-frame i u = frame_below stored (base_of l) locals word in_frame i u

  under-storage : (i : ℕ) → i < storage_start l → get_or (fresh n locals word l) i 0 ≡ get_or defined i 0
  under-storage i u =
      under-frame i (omega arith)
      ∙ storage-other defined (storage_start l) l.array_words i (omega (arith, h.storage))

  under-globals : (i : ℕ) → i < 8 → get_or (fresh n locals word l) i 0 ≡ get_or headed i 0
  under-globals i u = under-storage i (omega arith) ∙ run-below l.globals headed 8 undefined_word i u

  not-head : (i : ℕ) → (i ≢ 0) × (i ≢ 1) × (i ≢ 4) → i < n → get_or headed i 0 ≡ 0
  not-head i d u = head-other blank (storage_start l) (base_of l) locals i d ∙ get_or-replicate n i 0 0 u

  -- what neither storage's words nor the frame's are, above the globals
  untouched : (i : ℕ) → storage_start l + 2 ≤ i → (i ≢ base_of l - 3 - 1) × (i ≢ base_of l - 3) × (i ≢ base_of l - 3 + 1) → i < n → get_or stored i 0 ≡ 0
  untouched i k d u =
      storage-other defined (storage_start l) l.array_words i (omega arith, omega arith, d.0, d.1, d.2)
      ∙ run-above l.globals headed 8 undefined_word i (omega arith)
      ∙ not-head i (omega arith) u

  pub laid : Laid (fresh n locals word l) n locals word l
  unfolding fresh
  laid = record {
    long = frame-long stored (base_of l) locals word in_frame ∙ stored-long;
    word0 = under-globals 0 (omega arith) ∙ head-word0 blank (storage_start l) (base_of l) locals in_head;
    word1 = under-globals 1 (omega arith) ∙ head-word1 blank (storage_start l) (base_of l) locals in_head;
    word4 = under-globals 4 (omega arith) ∙ head-word4 blank (storage_start l) (base_of l) locals in_head;
    zeros = λ i d u. under-globals i u ∙ not-head i d (omega (arith, h.stack));
    globals = λ i k u. under-storage i u ∙ run_in l.globals headed 8 undefined_word (omega (arith, h.stack, headed-long)) i k u;
    first = under-frame (storage_start l) (omega (arith, h.storage)) ∙ storage-first defined (storage_start l) l.array_words h.storage in-storage;
    links = under-frame (storage_start l + 1) (omega (arith, h.storage)) ∙ storage-links defined (storage_start l) l.array_words h.storage in-storage;
    interior = λ i k u. under-frame i (omega arith) ∙ untouched i k (omega arith) (omega (arith, h.stack));
    end = under-frame (base_of l - 3 - 1) (omega (arith, h.storage)) ∙ storage-end defined (storage_start l) l.array_words h.storage in-storage;
    dummy = under-frame (base_of l - 3) (omega (arith, h.storage)) ∙ storage-dummy defined (storage_start l) l.array_words h.storage in-storage;
    dummy_links = under-frame (base_of l - 3 + 1) (omega (arith, h.storage)) ∙ storage-dummy-links defined (storage_start l) l.array_words h.storage in-storage;
    dummy_end = under-frame (base_of l - 1) (omega arith) ∙ untouched (base_of l - 1) (omega (arith, h.storage)) (omega (arith, h.storage)) (omega (arith, h.stack));
    variables = λ i k u. frame-locals stored (base_of l) locals word in_frame i k u;
    last = frame-last stored (base_of l) locals word in_frame;
    code = frame-code stored (base_of l) locals word in_frame;
    above = λ i k u. frame-above stored (base_of l) locals word in_frame i k ∙ untouched i (omega (arith, h.storage)) (omega (arith, h.storage)) u;
  }
