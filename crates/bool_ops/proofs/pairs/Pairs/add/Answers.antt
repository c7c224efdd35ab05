use Rattle.std.proofs.Common.{List, subst}
use Rattle.tree_definitions.specs.Product.{Both}
use Rattle.bool_ops.specs.Closing.{Adds}
use Rattle.bool_ops.proofs.Numbers.{added}
use Rattle.bool_ops.proofs.pairs.Pairs.add.Goals as goal

pub invariant_of-self-2 : goal.invariant_of-self-2
invariant_of-self-2 c = (added c.self.inside.pairs.keys c.insert.new.self.keys c.args.x c.self.invariant c.in_ok-insert.ensures.keys).distinct

pub returns-clause-ok : goal.returns-clause-ok
returns-clause-ok c =
    subst (λ (xs : List Both). Adds xs c.args.x c.insert.new.self.keys) c.self.view_is
    (added c.self.inside.pairs.keys c.insert.new.self.keys c.args.x c.self.invariant c.in_ok-insert.ensures.keys)
