use Rattle.std.proofs.Common.{◌≡◌, ◌+◌, length, not}
use Rattle.std.specs.Prelude.{count_by}
use Rattle.trim_ops.specs.Marking.{Nothing}
use Rattle.trim_ops.specs.Usefulness.{Spreading}
use Rattle.trim_ops.proofs.spread.useful_of.Given as goal

abbrev pub invariant-loop-q : goal.invariant-loop-q
invariant-loop-q l = record {
  size : length l.row ≡ length l.reached;
  spreading : Spreading l.rules l.finals l.reached Nothing l.row l.todo.items;
}

abbrev pub decreases-loop-q : goal.decreases-loop-q
decreases-loop-q l = count_by not l.row + length l.todo.items
