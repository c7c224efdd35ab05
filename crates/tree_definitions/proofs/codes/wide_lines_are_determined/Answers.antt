use Rattle.tree_definitions.proofs.Determined.{wide_determined}
use Rattle.tree_definitions.proofs.codes.wide_lines_are_determined.Goals as goal

pub returns : goal.returns
returns c = wide_determined
