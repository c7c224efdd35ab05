use Rattle.std.proofs.Common.{◌∙◌, map}
use Rattle.ta_model.specs.Macrostates.{row_at}
use Rattle.explicit_ta.proofs.Stepping.{reached_all, reached_more}
use Rattle.explicit_ta.proofs.steps.reached.Goals as goal

pub loop-rule-preserved : goal.loop-rule-preserved
loop-rule-preserved c = record {
  long = c.add_parent.ensures.long ∙ c.loop-rule.invariant.long;
  members = reached_more c.args.rules.now (map (row_at c.args.store.now) c.args.sets.now) c.loop-rule.rule-index c.rule-item.result c.loop-rule.row c.add_parent.new.row c.loop-rule-test.true c.rule-item.is
      c.loop-rule.invariant.members c.add_parent.ensures.members;
}

pub returns-clause-members : goal.returns-clause-members
returns-clause-members c =
    reached_all c.args.rules.now (map (row_at c.args.store.now) c.args.sets.now) c.loop-rule.rule-index c.loop-rule.row c.loop-rule-test.false c.loop-rule.invariant.members
