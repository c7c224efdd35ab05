use Rattle.std.proofs.Common.{◌≡◌, length, get_or, refl, arith}
use Rattle.std.proofs.lemmas.Option.{slice_get_read}
use Rattle.tree_definitions.specs.Relation.{Holds, IsAt}
use Rattle.witness_trees.proofs.Rows.{zip_both}
use Rattle.witness_trees.proofs.states.are_among.Goals as goal

pub loop-i-preserved : goal.loop-i-preserved
loop-i-preserved c =
    let same : length c.args.states.now ≡ length c.args.kids.now = omega arith in
    let here : IsAt c.args.reached.now (get_or c.args.kids.now c.loop-i.i 0) c.index-reached-kids.result =
    slice_get_read c.args.reached.now (length c.args.reached.now) (get_or c.args.kids.now c.loop-i.i 0) c.index-reached-kids.result refl (c.requires c.loop-i.i 0 (omega arith)) c.index-reached-kids.is in
    zip_both (λ s k. Holds c.args.reached.now k s) c.args.states.now c.args.kids.now c.loop-i.i 0 0 c.loop-i-test.true (omega arith) c.loop-i.invariant
    (c.index-reached-kids.result, here, c.has.ensures.0 c.if-not-has.false)
