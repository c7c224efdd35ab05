use Rattle.std.proofs.Common.{◌≡◌, Some, ◌∙◌, ap, sym, List, subst}
use Rattle.tree_definitions.specs.Product.{Both}
use Rattle.bool_ops.specs.Closing.{Adds}
use Rattle.bool_ops.proofs.Numbers.{added, same_pair_decides}
use Rattle.bool_ops.proofs.pairs.Pairs.number.Goals as goal

pub invariant_of-self-2 : goal.invariant_of-self-2
invariant_of-self-2 c = (added c.self.inside.pairs.keys c.insert_full.new.self.keys c.args.x c.self.invariant c.in_ok-i.ensures.keys).distinct

pub returns-clause-added : goal.returns-clause-added
returns-clause-added c =
    subst (λ (xs : List Both). Adds xs c.args.x c.insert_full.new.self.keys) c.self.view_is
    (added c.self.inside.pairs.keys c.insert_full.new.self.keys c.args.x c.self.invariant c.in_ok-i.ensures.keys)

pub returns-clause-at : goal.returns-clause-at
returns-clause-at c =
    let stored = c.in_ok-i.ensures.stored in
    stored.1 ∙ ap Some (sym ((same_pair_decides c.args.x stored.0).0 stored.2))
