use Rattle.std.proofs.Common.{length}
use Rattle.simulations.specs.Clearing.{Clearing}
use Rattle.simulations.specs.DownCases.{IsDownMatrix}
use Rattle.simulations.proofs.downward.sweep_early.Given as goal

abbrev pub invariant-loop : goal.invariant-loop
invariant-loop l = Clearing (length l.to) (IsDownMatrix l.rules) l.fn.sim l.fn.marks l.sim l.marks
