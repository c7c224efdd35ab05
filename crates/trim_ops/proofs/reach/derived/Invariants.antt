use Rattle.std.proofs.Common.{◌≡◌, ◌+◌, length, not}
use Rattle.std.specs.Prelude.{count_by}
use Rattle.trim_ops.specs.Marking.{Marking, Nothing}
use Rattle.trim_ops.proofs.reach.derived.Given as goal

abbrev pub invariant-loop-q : goal.invariant-loop-q
invariant-loop-q l = record {
  size : length l.row ≡ length l.by_child;
  marking : Marking l.rules Nothing l.row l.todo.items l.places;
}

abbrev pub decreases-loop-q : goal.decreases-loop-q
decreases-loop-q l = count_by not l.row + length l.todo.items
