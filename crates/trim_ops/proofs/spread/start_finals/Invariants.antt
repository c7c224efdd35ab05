use Rattle.std.proofs.Common.{◌≡◌, length, take}
use Rattle.trim_ops.specs.Usefulness.{Starting}
use Rattle.trim_ops.proofs.spread.start_finals.Given as goal

abbrev pub invariant-loop-q : goal.invariant-loop-q
invariant-loop-q l = record {
  size : length l.row ≡ length l.fn.row;
  starting : Starting (take l.q-index l.finals) l.reached l.row l.todo.items;
}
