use Rattle.std.proofs.Common.{subst, arith}
use Rattle.std.proofs.lemmas.Option.{slice_get_within}
use Rattle.tree_definitions.specs.Product.{Both}
use Rattle.tree_definitions.specs.Relation.{IsAt}
use Rattle.tree_definitions.proofs.Members.{place_of}
use Rattle.bool_ops.specs.Closing.{Grows}
use Rattle.bool_ops.proofs.Closed.{grows_on}
use Rattle.bool_ops.proofs.Explored.{rules_step}
use Rattle.bool_ops.proofs.close.explore.Goals as goal

pub loop-r-preserved : goal.loop-r-preserved
loop-r-preserved c =
    let ours = c.args.ours.now in
    let theirs = c.args.theirs.now in
    let base = c.args.pairs.now in
    let f0 = c.args.found.now in
    let p = c.loop-r.pairs in
    let f = c.loop-r.found in
    let p2 = c.explore_rule.new.pairs in
    let f2 = c.explore_rule.new.found in
    let inv = c.loop-r.invariant in
    let now : Grows ours theirs p f p2 f2 = c.in_ok-explore_rule.ensures.grows in
    record {
      grows = grows_on ours theirs base f0 p f p2 f2 inv.grows now;
      settled = rules_step ours theirs base f0 p f p2 f2 inv.grows now c.args.x c.at-r-items.result.now c.loop-r.r-index c.loop-r-test.true inv.settled c.in_ok-explore_rule.ensures.settled;
    }

pub returns-clause-settled : goal.returns-clause-settled
returns-clause-settled c r s i left right lat sat alike pat qat =
    let list = c.at-r-items.result.now in
    let there : IsAt c.args.by_child.now c.args.x.left list = subst (λ (y : Both). IsAt c.args.by_child.now y.left list) c.x.view_is c.at-r-items.ensures in
    let at = place_of list r (c.requires.by_child.whole c.args.x.left list r left i there lat pat) in
    let w = slice_get_within list at.0 r at.1 in
    c.loop-r.invariant.settled at.0 r (omega (arith, w, c.loop-r-test.false)) at.1 s i left right lat sat alike pat qat
