use Rattle.std.proofs.Common.{get_or}
use Rattle.explicit_ta.proofs.Lists.{item_is}
use Rattle.explicit_ta.proofs.Indexing.{up_classes_more}
use Rattle.explicit_ta.proofs.upward.up_classes_at.Goals as goal

pub loop-x-preserved : goal.loop-x-preserved
loop-x-preserved c =
    let first = c.args.first.now in
    let i = c.loop-x.x-index in
    up_classes_more c.args.states first c.args.second.now i (get_or first i (0, 0)) c.loop-x.classes.items c.add_class.new.classes.items c.loop-x-test.true (item_is first i (0, 0) c.loop-x-test.true) c.in_ok-add_class.ensures c.loop-x.invariant
