use Rattle.tree_definitions.proofs.Nodes.{some_tree, one_tree}
use Rattle.tree_definitions.proofs.trees.each_node_has_one_tree.Goals as goal

pub returns : goal.returns
returns c = record {
  some = some_tree;
  one = λ symbols nodes k t u. one_tree symbols nodes t u k;
}
