use Rattle.tree_definitions.proofs.Example.{all, tree, identity, pairs, fits, up_certificate, accepts_tree}
use Rattle.tree_definitions.proofs.inclusion.an_upward_certificate_exists.Goals as goal

pub returns : goal.returns
returns c = (all, all, identity 1, identity 1, pairs, fits, fits, up_certificate, (tree, accepts_tree))
