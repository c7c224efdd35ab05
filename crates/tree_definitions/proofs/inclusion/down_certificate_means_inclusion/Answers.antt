use Rattle.tree_definitions.specs.Relation.{Holds}
use Rattle.tree_definitions.proofs.Downward.{down_included}
use Rattle.tree_definitions.proofs.inclusion.down_certificate_means_inclusion.Goals as goal

pub returns : goal.returns
returns c A B both X left right states h = down_included A B (Holds both) X left right states h
