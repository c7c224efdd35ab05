use Rattle.std.proofs.Common.{length}
use Rattle.simulations.specs.Clearing.{Clearing}
use Rattle.simulations.specs.UpCases.{IsUpMatrix, AreExchanged, IsUpCaseAt}
use Rattle.simulations.proofs.upward.examine_rule.Given as goal

-- the places before this one are examined
abbrev pub invariant-loop-p : goal.invariant-loop-p
invariant-loop-p l = record {
  clearing : Clearing (length l.by_child) (IsUpMatrix l.rules) l.fn.sim l.fn.marks l.sim l.marks;
  exchanged : AreExchanged l.rules (IsUpCaseAt l.rule l.p) l.fn.sim l.sim;
}
