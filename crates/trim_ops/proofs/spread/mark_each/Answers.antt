use Rattle.std.proofs.Common.{arith}
use Rattle.trim_ops.proofs.UsefulSteps.{marks_none, marks_more}
use Rattle.trim_ops.proofs.spread.mark_each.Goals as goal

pub mark-requires : goal.mark-requires
mark-requires c = let h = c.requires c.loop-q.q-index 0 c.loop-q-test.true in omega (arith, h, c.loop-q.invariant.size)

pub loop-q-init : goal.loop-q-init
loop-q-init c = marks_none c.args.row.now c.args.todo.now.items

pub loop-q-preserved : goal.loop-q-preserved
loop-q-preserved c = marks_more c.args.row.now c.args.todo.now.items c.args.list.now c.loop-q.q-index c.loop-q.row c.loop-q.todo.items _ _ c.loop-q-test.true c.loop-q.invariant c.in_ok-mark.ensures
