use Rattle.std.proofs.Common.{◌≤◌, ◌-◌, length}
use Rattle.simulations.specs.Clearing.{Clearing}
use Rattle.simulations.specs.DownCases.{IsDownMatrix, AreAnswered, IsCaseBelow}
use Rattle.simulations.proofs.downward.examine_row.Given as goal

-- the rule is examined at the states before this one
abbrev pub invariant-loop-r : goal.invariant-loop-r
invariant-loop-r l = record {
  up : l.from ≤ length l.to;
  clearing : Clearing (length l.to) (IsDownMatrix l.rules) l.fn.sim l.fn.marks l.sim l.marks;
  answered : AreAnswered l.rules (IsCaseBelow l.rules l.i l.from) l.fn.sim l.sim;
}

abbrev pub decreases-loop-r : goal.decreases-loop-r
decreases-loop-r l = length l.to - l.from
