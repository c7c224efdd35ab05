use Rattle.std.proofs.Common.{length}
use Rattle.simulations.specs.Clearing.{Clearing}
use Rattle.simulations.specs.DownCases.{IsDownMatrix, AreAnswered, IsCaseOf}
use Rattle.simulations.proofs.downward.sweep.Given as goal

-- the rules before this one are examined
abbrev pub invariant-loop-i : goal.invariant-loop-i
invariant-loop-i l = record {
  clearing : Clearing (length l.to) (IsDownMatrix l.rules) l.fn.sim l.fn.marks l.sim l.marks;
  answered : AreAnswered l.rules (IsCaseOf l.rules l.i) l.fn.sim l.sim;
}
