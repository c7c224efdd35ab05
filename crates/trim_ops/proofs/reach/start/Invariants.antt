use Rattle.std.proofs.Common.{◌≡◌, length}
use Rattle.trim_ops.specs.Marking.{AreWithin, Marking, IsFrom}
use Rattle.trim_ops.proofs.reach.start.Given as goal

abbrev pub invariant-loop-at : goal.invariant-loop-at
invariant-loop-at l = record {
  within : AreWithin (length l.row) l.rules;
  size : length l.row ≡ length l.fn.row;
  marking : Marking l.rules (IsFrom l.at) l.row l.todo.items l.places;
}
