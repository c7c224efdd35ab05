use Rattle.std.proofs.Common.{length}
use Rattle.simulations.specs.Clearing.{Clearing}
use Rattle.simulations.specs.UpCases.{IsUpMatrix, AreExchanged, AreUpUnder}
use Rattle.simulations.proofs.upward.examine_rules.Given as goal

-- the rules before this one are examined
abbrev pub invariant-loop-i : goal.invariant-loop-i
invariant-loop-i l = record {
  clearing : Clearing (length l.by_child) (IsUpMatrix l.rules) l.fn.sim l.fn.marks l.sim l.marks;
  exchanged : AreExchanged l.rules (AreUpUnder l.rules l.below l.i-index l.above) l.fn.sim l.sim;
}
