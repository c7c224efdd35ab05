use Rattle.std.proofs.Common.{◌≤◌, ◌-◌, length}
use Rattle.simulations.specs.Clearing.{Clearing}
use Rattle.simulations.specs.UpCases.{IsUpMatrix, AreExchanged, IsUpCaseBelow}
use Rattle.simulations.proofs.upward.examine_place.Given as goal

-- the rule is examined at the states before this one
abbrev pub invariant-loop-r : goal.invariant-loop-r
invariant-loop-r l = record {
  up : l.from ≤ length l.by_child;
  clearing : Clearing (length l.by_child) (IsUpMatrix l.rules) l.fn.sim l.fn.marks l.sim l.marks;
  exchanged : AreExchanged l.rules (IsUpCaseBelow l.rule l.p l.from) l.fn.sim l.sim;
}

abbrev pub decreases-loop-r : goal.decreases-loop-r
decreases-loop-r l = length l.by_child - l.from
