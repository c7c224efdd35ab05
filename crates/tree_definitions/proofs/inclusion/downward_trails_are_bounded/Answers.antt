use Rattle.tree_definitions.specs.Relation.{Holds}
use Rattle.tree_definitions.proofs.DownTrails.{down_trail_bound}
use Rattle.tree_definitions.proofs.inclusion.downward_trails_are_bounded.Goals as goal

pub returns : goal.returns
returns c A B both budget m entries b ranks fits trail = down_trail_bound A B (Holds both) budget m entries b ranks fits trail
