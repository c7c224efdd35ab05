use Rattle.std.proofs.Common.{get_or}
use Rattle.explicit_ta.proofs.Lists.{item_is}
use Rattle.explicit_ta.proofs.Down.{down_groups_more}
use Rattle.explicit_ta.proofs.down_groups.down_groups_at.Goals as goal

pub loop-a-preserved : goal.loop-a-preserved
loop-a-preserved c =
    let symbols = c.deref-a-items.result.now in
    let i = c.loop-a.a-index in
    rw c.in_ok-push.ensures.items (down_groups_more c.args.clusters.now c.args.n c.args.q c.args.set.now symbols i (get_or symbols i 0) c.loop-a.groups.items c.in_ok-group_under.field-0 c.loop-a-test.true (item_is symbols i 0 c.loop-a-test.true)
    (rw c.deref-a-items.ensures.value c.in_ok-symbols.ensures.symbols) c.in_ok-group_under.ensures.symbol c.in_ok-group_under.ensures.rules c.in_ok-group_under.ensures.tuples c.loop-a.invariant)
