use Rattle.std.proofs.Common.{Contains, ap, subst, length, arith, length-take}
use Rattle.down_entry_lines.proofs.Ruled.{not_before}
use Rattle.down_entry_lines.proofs.rule_places.RulePlaces.of.Goals as goal

pub append-requires-clause-lacks : goal.append-requires-clause-lacks
append-requires-clause-lacks c h =
    not_before c.args.rules.now c.loop-rule.rule-index c.rule-item.result c.requires.distinct c.loop-rule-test.true c.rule-item.is
    (subst (λ xs. Contains xs c.rule-item.result) c.loop-rule.invariant h)

pub append-requires-clause-room : goal.append-requires-clause-room
append-requires-clause-room c = omega (arith, ap length c.loop-rule.invariant, length-take c.loop-rule.rule-index c.args.rules.now, c.loop-rule-test.true, c.requires.few)
