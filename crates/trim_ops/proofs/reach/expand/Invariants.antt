use Rattle.std.proofs.Common.{◌≡◌, ◌+◌, length, not}
use Rattle.std.specs.Prelude.{count_by}
use Rattle.trim_ops.specs.Marking.{AreWithin, Marking, IsLater}
use Rattle.trim_ops.proofs.reach.expand.Given as goal

abbrev pub invariant-loop-r : goal.invariant-loop-r
invariant-loop-r l = record {
  within : AreWithin (length l.row) l.rules;
  size : length l.row ≡ length l.fn.row;
  work : count_by not l.row + length l.todo.items ≡ count_by not l.fn.row + length l.fn.todo.items;
  marking : Marking l.rules (IsLater l.list l.r-index) l.row l.todo.items l.places;
}
