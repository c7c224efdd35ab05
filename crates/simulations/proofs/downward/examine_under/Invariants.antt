use Rattle.std.proofs.Common.{length}
use Rattle.simulations.specs.Clearing.{Clearing}
use Rattle.simulations.specs.DownCases.{IsDownMatrix, AreAnswered, IsUnder}
use Rattle.simulations.proofs.downward.examine_under.Given as goal

-- the rule is examined at the parents of the rules before this one
abbrev pub invariant-loop-s : goal.invariant-loop-s
invariant-loop-s l = record {
  clearing : Clearing (length l.to) (IsDownMatrix l.rules) l.fn.sim l.fn.marks l.sim l.marks;
  answered : AreAnswered l.rules (IsUnder l.rules l.i l.above l.s-index) l.fn.sim l.sim;
}
