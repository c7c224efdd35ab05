use Rattle.std.proofs.Common.{◌≤◌, subst, sym}
use Rattle.std.specs.Prelude.{All}
use Rattle.explicit_ta.proofs.Down.{tuple_behind}
use Rattle.explicit_ta.proofs.down_groups.append_lowered.Goals as goal

pub lowered-requires : goal.lowered-requires
lowered-requires c =
    subst (All (λ q. c.args.n ≤ q)) (sym c.as_slice.ensures) (tuple_behind c.args.n c.args.tuples.now c.loop-kids.kids-index c.kids-item.result c.loop-kids-test.true c.kids-item.is c.requires)
