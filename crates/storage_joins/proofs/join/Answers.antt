use native.Mathlib.Omega.{arith}
use Rattle.storage_joins.proofs.Joining.{straight-says, copies, join-words}
use Rattle.storage.proofs.Requests.{given_inside}
use borrow.Author.Rules.{rules}
use Rattle.storage_joins.proofs.join.Goals as goal

pub copy_part-requires : goal.copy_part-requires
copy_part-requires c = let k = straight-says c.args.seg.now c.args.f.0 c.args.first c.args.second c.requires.2 in
    copies c.args.seg.now c.args.f.0 c.args.first _ _ _ k.1 k.0 (search rules) c.index-2.ensures
    (omega (arith, given_inside _ _ _ _ c.give-block.ensures.result_value c.requires.1, c.index.ensures))

pub copy_part-requires-2 : goal.copy_part-requires-2
copy_part-requires-2 c = let k = straight-says c.args.seg.now c.args.f.0 c.args.first c.args.second c.requires.2 in
    copies c.args.seg.now c.args.f.0 c.args.second _ _ _ k.2 k.0 (search rules) c.index-3.ensures
    (omega (arith, given_inside _ _ _ _ c.give-block.ensures.result_value c.requires.1, c.index.ensures))

pub returns : goal.returns
returns c = let k = straight-says c.args.seg.now c.args.f.0 c.args.first c.args.second c.requires.2 in
    let g = c.give-block.ensures in record {
      result_value = g.result_value;
      seg_after = join-words c.args.seg.now c.args.f.0 c.args.shape.now c.args.first c.args.second _ k.1 k.2 c.requires.1
          (given_inside _ _ _ _ g.result_value c.requires.1) g.seg_after c.head.ensures c.index.ensures
          c.index-2.ensures c.copy_part.ensures c.index-3.ensures c.copy_part-2.ensures;
    }
