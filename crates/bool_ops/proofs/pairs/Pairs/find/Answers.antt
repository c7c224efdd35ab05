use Rattle.std.proofs.Common.{◌≡◌, ◌≢◌, Some, slice_get, List, subst}
use Rattle.std.specs.Prelude.{IfSome, AllPairs}
use Rattle.tree_definitions.specs.Product.{Both}
use Rattle.bool_ops.proofs.Numbers.{found}
use Rattle.bool_ops.proofs.pairs.Pairs.find.Goals as goal

pub returns-clause-found : goal.returns-clause-found
returns-clause-found c =
    let x = c.args.x in
    subst (λ (xs : List Both). IfSome c.get_index_of.result (λ i. slice_get xs i ≡ Some x)) c.self.view_is
    (found c.self.inside.pairs.keys x c.get_index_of.result c.get_index_of.ensures.index)

pub returns-clause-distinct : goal.returns-clause-distinct
returns-clause-distinct c = subst (λ (xs : List Both). AllPairs ◌≢◌ xs) c.self.view_is c.self.invariant
