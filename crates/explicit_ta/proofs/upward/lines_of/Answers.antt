use Rattle.std.proofs.Common.{subst}
use Rattle.std.proofs.lemmas.List.{take_all}
use Rattle.explicit_ta.specs.Index.{ListsUses}
use Rattle.explicit_ta.proofs.Indexing.{uses_rule}
use Rattle.explicit_ta.proofs.upward.lines_of.Goals as goal

pub loop-rule-preserved : goal.loop-rule-preserved
loop-rule-preserved c =
    uses_rule c.loop-rule.lines.items c.add_uses.new.lines.items c.args.rules.now c.loop-rule.rule-index c.rule-item.result c.loop-rule-test.true c.rule-item.is c.in_ok-add_uses.ensures c.loop-rule.invariant

pub returns : goal.returns
returns c = subst (ListsUses c.loop-rule.lines.items) (take_all c.loop-rule.rule-index c.args.rules.now c.loop-rule-test.false) c.loop-rule.invariant
