use Rattle.witness_trees.proofs.ReadBack.{printed_back}
use Rattle.witness_trees.proofs.laws.printed_nodes_are_read_back.Goals as goal

pub returns : goal.returns
returns c = printed_back
