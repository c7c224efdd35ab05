use Rattle.std.proofs.Common.{◌+◌, sym, subst}
use Rattle.bool_ops.specs.Paths.{AreEndsTo}
use Rattle.bool_ops.proofs.Paths.{end_added}
use Rattle.bool_ops.proofs.by_kids.lists_of.Goals as goal

pub loop-s-preserved : goal.loop-s-preserved
loop-s-preserved c =
    subst (AreEndsTo c.args.ends.now c.args.n (c.loop-s.s + 1)) (sym c.in_ok-add.ensures)
    (end_added c.args.ends.now c.args.n c.loop-s.s c.loop-s.lists c.loop-s.invariant c.loop-s-test.true c.if-n-end.false)
