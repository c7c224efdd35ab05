use Rattle.tree_definitions.specs.Relation.{Holds}
use Rattle.tree_definitions.proofs.UpTrails.{up_trail_bound}
use Rattle.tree_definitions.proofs.inclusion.upward_trails_are_bounded.Goals as goal

pub returns : goal.returns
returns c A B left right budget entries l r fits trail = up_trail_bound A B (Holds left) (Holds right) budget entries l r fits trail
