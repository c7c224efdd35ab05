use Rattle.std.proofs.Common.{take}
use Rattle.trim_ops.specs.Usefulness.{MarksEach}
use Rattle.trim_ops.proofs.spread.mark_each.Given as goal

abbrev pub invariant-loop-q : goal.invariant-loop-q
invariant-loop-q l = MarksEach l.fn.row l.fn.todo.items (take l.q-index l.list) l.row l.todo.items
