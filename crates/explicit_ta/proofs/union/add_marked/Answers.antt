use Rattle.std.proofs.Common.{◌++◌, subst, sym}
use Rattle.tree_definitions.specs.Name.{IsName}
use Rattle.explicit_ta.proofs.union.add_marked.Goals as goal

pub marked_name-requires : goal.marked_name-requires
marked_name-requires c =
    subst (λ n. IsName (n ++ c.args.mark.now)) (sym c.name-item.is) (c.requires c.loop-name.name-index c.name-item.result c.loop-name-test.true)
