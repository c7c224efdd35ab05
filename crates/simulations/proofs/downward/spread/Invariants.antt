use Rattle.std.proofs.Common.{◌≤◌, ◌-◌, length}
use Rattle.simulations.specs.Clearing.{Clearing}
use Rattle.simulations.specs.DownCases.{IsDownMatrix, AreAnswered, RestsOn}
use Rattle.simulations.proofs.downward.spread.Given as goal

-- what rests on the lost pairs before this one is examined
abbrev pub invariant-loop-r : goal.invariant-loop-r
invariant-loop-r l = record {
  up : l.from ≤ length l.to;
  clearing : Clearing (length l.to) (IsDownMatrix l.rules) l.fn.sim l.fn.marks l.sim l.marks;
  answered : AreAnswered l.rules (RestsOn l.rules l.by_child l.below l.lost l.from) l.fn.sim l.sim;
}

abbrev pub decreases-loop-r : goal.decreases-loop-r
decreases-loop-r l = length l.to - l.from
