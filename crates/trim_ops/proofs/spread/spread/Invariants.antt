use Rattle.std.proofs.Common.{◌≡◌, ◌+◌, length, not}
use Rattle.std.specs.Prelude.{count_by}
use Rattle.tree_definitions.specs.Relation.{Has}
use Rattle.trim_ops.specs.Marking.{IsLater}
use Rattle.trim_ops.specs.Usefulness.{Spreading}
use Rattle.trim_ops.proofs.spread.spread.Given as goal

abbrev pub invariant-loop-r : goal.invariant-loop-r
invariant-loop-r l = record {
  size : length l.row ≡ length l.fn.row;
  work : count_by not l.row + length l.todo.items ≡ count_by not l.fn.row + length l.fn.todo.items;
  marked : Has l.row l.parent;
  spreading : Spreading l.rules l.finals l.reached (IsLater l.list l.r-index) l.row l.todo.items;
}
