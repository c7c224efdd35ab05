use Rattle.std.proofs.Common.{length}
use Rattle.simulations.specs.Clearing.{Clearing}
use Rattle.simulations.specs.UpCases.{IsUpMatrix, AreExchanged, IsUpUnder}
use Rattle.simulations.proofs.upward.examine_under.Given as goal

-- the rules before this one are looked at
abbrev pub invariant-loop-s : goal.invariant-loop-s
invariant-loop-s l = record {
  clearing : Clearing (length l.by_child) (IsUpMatrix l.rules) l.fn.sim l.fn.marks l.sim l.marks;
  exchanged : AreExchanged l.rules (IsUpUnder l.rules l.rule l.above l.s-index) l.fn.sim l.sim;
}
