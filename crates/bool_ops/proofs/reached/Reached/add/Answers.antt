use Rattle.std.proofs.Common.{[], get_or, Contains, subst}
use Rattle.tree_definitions.specs.Product.{Both}
use Rattle.bool_ops.proofs.Partnered.{still_partners}
use Rattle.bool_ops.proofs.reached.Reached.add.Goals as goal

pub invariant_of-self-2 : goal.invariant_of-self-2
invariant_of-self-2 c =
    still_partners c.add-2.result c.self.inside.pairs c.add-2.new.self c.args.x c.self.inside.partners c.add.new.self c.add-2.ensures.ok c.add-2.ensures.err c.self.invariant
    c.in_ok-add.ensures.kept (subst (λ (z : Both). Contains (get_or c.add.new.self z.left []) z.right) c.x.view_is c.in_ok-add.ensures.here)
