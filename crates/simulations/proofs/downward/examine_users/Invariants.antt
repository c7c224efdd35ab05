use Rattle.std.proofs.Common.{length}
use Rattle.simulations.specs.Clearing.{Clearing}
use Rattle.simulations.specs.DownCases.{IsDownMatrix, AreAnswered, AreUnder}
use Rattle.simulations.proofs.downward.examine_users.Given as goal

-- the rules before this one are examined
abbrev pub invariant-loop-i : goal.invariant-loop-i
invariant-loop-i l = record {
  clearing : Clearing (length l.to) (IsDownMatrix l.rules) l.fn.sim l.fn.marks l.sim l.marks;
  answered : AreAnswered l.rules (AreUnder l.rules l.below l.i-index l.above) l.fn.sim l.sim;
}
