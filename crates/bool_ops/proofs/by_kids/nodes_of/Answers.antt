use Rattle.std.proofs.Common.{◌≡◌, ◌+◌, length, refl, sym, subst, arith}
use Rattle.std.proofs.lemmas.Option.{slice_get_read}
use Rattle.tree_definitions.specs.Relation.{IsAt}
use Rattle.bool_ops.specs.Paths.{HasEnds}
use Rattle.bool_ops.proofs.Paths.{ends_step}
use Rattle.bool_ops.proofs.by_kids.nodes_of.Goals as goal

pub loop-rule-preserved : goal.loop-rule-preserved
loop-rule-preserved c =
    let rules = c.args.rules.now in
    let i = c.loop-rule.rule-index in
    let rule = c.rule-item.result in
    let at : IsAt rules i rule = slice_get_read rules (length rules) i rule refl c.loop-rule-test.true c.rule-item.is in
    subst (HasEnds rules (i + 1) c.end_of.new.nodes) (sym c.in_ok-push.ensures.items)
    (ends_step rules i c.loop-rule.nodes c.end_of.new.nodes c.loop-rule.ends.items rule c.in_ok-end.end c.loop-rule.invariant at c.in_ok-end.ensures.leads c.in_ok-end.ensures.kept)

pub returns : goal.returns
returns c =
    let rules = c.args.rules.now in
    let all : c.loop-rule.rule-index ≡ length rules = omega (arith, c.loop-rule-test.false, c.loop-rule.auto.rule-index-end) in
    subst (λ n. HasEnds rules n c.loop-rule.nodes c.loop-rule.ends.items) all c.loop-rule.invariant
