use Rattle.std.proofs.Common.{◌≤◌, ◌-◌, length}
use Rattle.simulations.specs.Clearing.{Clearing}
use Rattle.simulations.specs.DownCases.{IsDownMatrix}
use Rattle.simulations.proofs.symbols.judge_row.Given as goal

abbrev pub invariant-loop-r : goal.invariant-loop-r
invariant-loop-r l = record {
  up : l.from ≤ length l.has;
  clearing : Clearing (length l.has) (IsDownMatrix l.rules) l.fn.sim l.fn.marks l.sim l.marks;
}

abbrev pub decreases-loop-r : goal.decreases-loop-r
decreases-loop-r l = length l.has - l.from
