use Rattle.std.proofs.Common.{List, ◌≢◌, ◌∙◌, subst}
use Rattle.std.specs.Prelude.{AllPairs}
use Rattle.tree_definitions.specs.Product.{Both}
use Rattle.bool_ops.proofs.pairs.Pairs.list.Goals as goal

pub returns-clause-value : goal.returns-clause-value
returns-clause-value c = c.as_slice.ensures.keys ∙ c.self.view_is

pub returns-clause-distinct : goal.returns-clause-distinct
returns-clause-distinct c = subst (λ (xs : List Both). AllPairs ◌≢◌ xs) c.self.view_is c.self.invariant
