use Rattle.std.proofs.Common.{◌∙◌}
use Rattle.explicit_ta.proofs.Tables.{rule_more}
use Rattle.explicit_ta.proofs.downward.add_rules.Goals as goal

pub loop-kids-preserved : goal.loop-kids-preserved
loop-kids-preserved c =
    rule_more c.args.symbol c.args.parent c.args.all.now.items c.loop-kids.all.items c.push.new.self.items c.args.tuples.now c.loop-kids.kids-index c.kids-item.result c.in_ok-copy.copy.items
    c.loop-kids-test.true c.kids-item.is (c.in_ok-copy.ensures.ok ∙ c.as_slice.ensures) c.loop-kids.invariant c.in_ok-push.ensures.items
