-- Test 13 passes exactly where its facts hold.
use Prim.Native.Nat.{ℕ, ◌+◌, ◌^◌}
use mathlib.Core.Path.{◌≡◌}
use mathlib.Core.Bool.{true}
use mathlib.Core.List.{List}
use lib.ListN.{get_or, length}
use lib.Dec.{leb, ltb, eqb}
use borrow.Author.Tests.{leb-true, ltb-true, eqb-true, le-leb, lt-ltb, eq-eqb}
use Rattle.segment.specs.State.{sbase, ltop, flags, trap_word, blockptr}
use Rattle.acceptance_storage.specs.Head.{head_test, Head}
use Rattle.acceptance_storage.proofs.Tests.{both}

pub head-sound : (s : List ℕ) → head_test s ≡ true → Head s
unfolding head_test
head-sound s h =
    let g = both _ (ltb (sbase s + ltop s) (length s)) h in
    let f = both _ (leb (blockptr s + 3) (sbase s)) g.0 in
    let e = both _ (eqb (get_or s 7 0) 0) f.0 in
    let d = both _ (eqb (get_or s 6 0) 0) e.0 in
    let c = both _ (eqb (get_or s 5 0) 0) d.0 in
    let b = both _ (leb 8 (blockptr s)) c.0 in
    let a = both (ltb (flags s) (2 ^ 4)) (ltb (trap_word s) (2 ^ 16)) b.0 in
    record {
      flag_bits = ltb-true _ _ a.0;
      trap_bits = ltb-true _ _ a.1;
      low = leb-true _ _ b.1;
      word5 = eqb-true _ _ c.1;
      word6 = eqb-true _ _ d.1;
      word7 = eqb-true _ _ e.1;
      room = leb-true _ _ f.1;
      top = ltb-true _ _ g.1;
    }

pub head-complete : (s : List ℕ) → Head s → head_test s ≡ true
unfolding head_test
head-complete s h =
    simp (
      lt-ltb _ _ h.flag_bits,
      lt-ltb _ _ h.trap_bits,
      le-leb _ _ h.low,
      eq-eqb _ _ h.word5,
      eq-eqb _ _ h.word6,
      eq-eqb _ _ h.word7,
      le-leb _ _ h.room,
      lt-ltb _ _ h.top,
    )
