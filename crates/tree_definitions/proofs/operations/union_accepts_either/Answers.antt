use Rattle.tree_definitions.proofs.United.{union_accepts}
use Rattle.tree_definitions.proofs.operations.union_accepts_either.Goals as goal

pub returns : goal.returns
returns c A B U fits h = union_accepts A B U fits h
