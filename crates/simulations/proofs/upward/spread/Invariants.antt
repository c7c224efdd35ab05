use Rattle.std.proofs.Common.{◌≤◌, ◌-◌, length}
use Rattle.simulations.specs.Clearing.{Clearing}
use Rattle.simulations.specs.UpCases.{IsUpMatrix, AreExchanged, RestsOnParents}
use Rattle.simulations.proofs.upward.spread.Given as goal

-- what rests on the lost pairs before this one is examined
abbrev pub invariant-loop-s : goal.invariant-loop-s
invariant-loop-s l = record {
  up : l.from ≤ length l.by_child;
  clearing : Clearing (length l.by_child) (IsUpMatrix l.rules) l.fn.sim l.fn.marks l.sim l.marks;
  exchanged : AreExchanged l.rules (RestsOnParents l.rules l.by_parent l.below l.lost l.from) l.fn.sim l.sim;
}

abbrev pub decreases-loop-s : goal.decreases-loop-s
decreases-loop-s l = length l.by_child - l.from
