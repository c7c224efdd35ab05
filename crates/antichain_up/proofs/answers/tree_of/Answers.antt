use Rattle.std.proofs.Common.{◌∙◌, sym, subst}
use Rattle.witness_trees.specs.Nodes.{NodeList}
use Rattle.antichain_up.specs.Answers.{IsEachNeeded}
use Rattle.antichain_up.proofs.Pruned.{none_needed}
use Rattle.antichain_up.proofs.answers.tree_of.Goals as goal
use Rattle.antichain_up.proofs.answers.tree_of.Goals.{then-not-is_empty+in_ok-add_needed, else-not-is_empty}

pub returns-clause-needed : goal.returns-clause-needed
returns-clause-needed c = elim c.if-not-is_empty.branch [
  | then-not-is_empty+in_ok-add_needed w ↦ subst (λ (n : NodeList). IsEachNeeded n.rows) (sym w.nodes-is) w.in_ok-add_needed.ensures.needed
  | else-not-is_empty w ↦ subst (λ (n : NodeList). IsEachNeeded n.rows) (sym (w.nodes-is ∙ c.in_ok-nodes.ensures)) none_needed
]
