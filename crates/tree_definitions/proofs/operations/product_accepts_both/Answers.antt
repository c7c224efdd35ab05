use Rattle.tree_definitions.proofs.Multiplied.{product_accepts}
use Rattle.tree_definitions.proofs.operations.product_accepts_both.Goals as goal

pub returns : goal.returns
returns c A B P h = product_accepts A B P h.0 h.1
