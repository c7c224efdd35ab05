use Rattle.tree_definitions.proofs.Collapsed.{quotient_same}
use Rattle.tree_definitions.proofs.operations.quotient_keeps_the_language.Goals as goal

pub returns : goal.returns
returns c A C h = quotient_same A C h
