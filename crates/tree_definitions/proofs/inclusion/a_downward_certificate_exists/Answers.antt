use Rattle.tree_definitions.proofs.Example.{all, tree, identity, pairs, states, fits, down_certificate, accepts_tree}
use Rattle.tree_definitions.proofs.inclusion.a_downward_certificate_exists.Goals as goal

pub returns : goal.returns
returns c = (all, all, identity 2, pairs, fits, fits, states, down_certificate, (tree, accepts_tree))
