use Rattle.std.proofs.Common.{◌<◌, subst, sym, get_or}
use Rattle.explicit_ta.proofs.Indexing.{rules_more, rules_none}
use Rattle.explicit_ta.proofs.downward.clusters_of.Goals as goal

pub loop-rule-init : goal.loop-rule-init
loop-rule-init c = rules_none c.in_ok-clusters.clusters c.args.parents c.args.rules.now c.in_ok-clusters.ensures.parents c.in_ok-clusters.ensures.empty

pub insert-requires : goal.insert-requires
insert-requires c =
    let within : (get_or c.args.rules.now c.loop-rule.rule-index c.rule-item.result).parent < c.args.parents = c.requires c.loop-rule.rule-index c.rule-item.result c.loop-rule-test.true in
    rw c.loop-rule.invariant.parents_of (subst (λ r. r.parent < c.args.parents) (sym c.rule-item.is) within)

pub loop-rule-preserved : goal.loop-rule-preserved
loop-rule-preserved c =
    rules_more c.loop-rule.clusters c.insert.new.self c.args.parents c.args.rules.now c.loop-rule.rule-index c.rule-item.result c.loop-rule-test.true c.rule-item.is c.loop-rule.invariant c.in_ok-insert.ensures.ok c.insert.ensures.parents
