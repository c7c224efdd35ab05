use Rattle.std.proofs.Common.{◌↔◌}
use Rattle.std.specs.Prelude.{IsTrue}
use Rattle.std.proofs.lemmas.Result.{IfOk-weaker}
use Rattle.tree_definitions.specs.Relation.{Holds}
use Rattle.up_conditions.specs.Covering.{IsOfPart, IsPartCovered, IsRuleCovered}
use Rattle.up_conditions.proofs.covering.part_is_covered.Goals as goal

pub returns : goal.returns
returns c =
    let RA = Holds c.args.left.now in
    let RB = Holds c.args.right.now in
    let X = c.args.pairs.now in
    let B = c.args.b.now in
    let A = c.args.a.now in
    let rule = c.args.rule.now in
    let part : IsOfPart c.args.leaves rule = c.is_of_part.ensures.0 c.if-not-is_of_part.false in
    IfOk-weaker c.rule_is_covered.result (λ yes. IsTrue yes ↔ IsRuleCovered A B RA RB X rule) (λ yes. IsTrue yes ↔ IsPartCovered c.args.leaves A B RA RB X rule)
    (λ yes h. (λ t _. h.0 t, λ covered. h.1 (covered part)))
    c.rule_is_covered.ensures
