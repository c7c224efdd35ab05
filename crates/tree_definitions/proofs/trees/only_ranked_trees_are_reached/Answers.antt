use Rattle.tree_definitions.proofs.Ranked.{reached_ranked}
use Rattle.tree_definitions.proofs.trees.only_ranked_trees_are_reached.Goals as goal

pub returns : goal.returns
returns c A fits t q h = reached_ranked A fits t q h
