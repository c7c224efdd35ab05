use Rattle.tree_definitions.specs.Relation.{Holds}
use Rattle.tree_definitions.proofs.Upward.{up_included}
use Rattle.tree_definitions.proofs.inclusion.up_certificate_means_inclusion.Goals as goal

pub returns : goal.returns
returns c A B left right X h = up_included A B (Holds left) (Holds right) X h
