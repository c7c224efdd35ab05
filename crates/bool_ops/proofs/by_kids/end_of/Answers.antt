use Rattle.std.proofs.Common.{◌≡◌, ◌∙◌, ap, get_or, subst}
use Rattle.std.proofs.lemmas.List.{take_all}
use Rattle.tree_definitions.specs.Automaton.{Rule}
use Rattle.tree_definitions.specs.Product.{Both}
use Rattle.tree_definitions.specs.Relation.{IsAt}
use Rattle.bool_ops.specs.Closing.{Adds}
use Rattle.bool_ops.specs.Paths.{Leads, root_of, step_of}
use Rattle.bool_ops.proofs.Filed.{adds_at}
use Rattle.bool_ops.proofs.Paths.{leads_kept, end_step}
use Rattle.bool_ops.proofs.by_kids.end_of.Goals as goal

pub loop-k-preserved : goal.loop-k-preserved
loop-k-preserved c =
    let items = c.as_slice-k-items.result.now in
    let i = c.loop-k.k-index in
    let nodes = c.loop-k.nodes in
    let after = c.number.new.self in
    let x = step_of c.loop-k.node (get_or items i 0) in
    let adds : Adds nodes x after = subst (λ (z : Both). Adds nodes z after) c.step.ensures c.in_ok-node.ensures.added in
    let at : IsAt after c.in_ok-node.node x = subst (IsAt after c.in_ok-node.node) c.step.ensures c.in_ok-node.ensures.at in
    record {
      leads = end_step nodes after (root_of c.args.rule.now.symbol) items i c.loop-k.node c.in_ok-node.node c.loop-k-test.true adds at c.loop-k.invariant.leads;
      kept = λ from to states h. leads_kept nodes after (adds_at nodes x after adds) from to states (c.loop-k.invariant.kept from to states h);
    }

pub returns-clause-leads : goal.returns-clause-leads
returns-clause-leads c two =
    let items = c.as_slice-k-items.result.now in
    let kids : items ≡ c.args.rule.now.kids = c.as_slice-k-items.ensures ∙ ap (λ (o : Rule). o.kids) c.rule.view_is in
    subst (λ ks. Leads c.loop-k.nodes (root_of c.args.rule.now.symbol) ks c.loop-k.node) (take_all c.loop-k.k-index items c.loop-k-test.false ∙ kids) c.loop-k.invariant.leads
