use Rattle.tree_definitions.proofs.Trimmed.{trim_same}
use Rattle.tree_definitions.proofs.operations.trim_keeps_the_language.Goals as goal

pub returns : goal.returns
returns c A T h = trim_same A T h.0 h.1
