use Rattle.witness_trees.proofs.Inverse.{judged_inverse}
use Rattle.witness_trees.proofs.laws.only_printed_nodes_are_read.Goals as goal

pub returns : goal.returns
returns c = judged_inverse
